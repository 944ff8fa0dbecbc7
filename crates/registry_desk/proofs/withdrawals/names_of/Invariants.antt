use Rattle.registry_desk.proofs.Words.{◌≡◌, ◌++◌, length, map, DistTag}
use Rattle.std.specs.Vec.Iter.{into_iter_items, into_iter_len}
use Rattle.registry_desk.proofs.withdrawals.names_of.Given as goal

-- the tags so far are named
abbrev pub invariant-loop-row : goal.invariant-loop-row
invariant-loop-row l = record {
  told : l.names.items ++ map (λ (t : DistTag). t.tag) (into_iter_items l.row-iterator) ≡ map (λ (t : DistTag). t.tag) (into_iter_items l.initial.row-iterator);
  remain : into_iter_len l.row-iterator ≡ length (into_iter_items l.row-iterator);
}
