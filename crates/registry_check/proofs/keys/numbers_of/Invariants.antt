use Rattle.std.proofs.Common.{◌≡◌, map, take}
use Rattle.registry_check.specs.declared.tables.HeldRow.{HeldRow}
use Rattle.registry_check.proofs.keys.numbers_of.Given as goal

-- the numbers of the rows so far
abbrev pub invariant-loop-row : goal.invariant-loop-row
invariant-loop-row l = l.numbers.items ≡ map (λ (r : HeldRow). r.archive) (take l.row-index l.held)
