use Rattle.registry_desk.proofs.Words.{map, take, change_of, AreLeftBy}
use Rattle.registry_desk.proofs.cache.Caches.forget.Given as goal

-- what the changes so far make another is forgotten
abbrev pub invariant-loop-change : goal.invariant-loop-change
invariant-loop-change l = record {
  forgets : AreLeftBy (map change_of (take l.change-index l.changes)) l.fn.self l.self;
}
