use Rattle.registry_desk.proofs.Words.{map, take, Ok, Fault, change_of}
use Rattle.registry_desk.specs.Answering.{AreMade, Does}
use Rattle.registry_desk.proofs.answer.make_all.Given as goal

-- the changes so far are made
abbrev pub invariant-loop-change : goal.invariant-loop-change
invariant-loop-change g l = Does {R = Unit {0}} {E = Fault} g.S.Store l.fn.tx l.tx (Ok tt) (λ _ c d. AreMade (map change_of (take l.change-index l.changes)) c d)
