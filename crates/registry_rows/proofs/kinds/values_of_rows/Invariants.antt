use Rattle.std.proofs.Common.{◌≡◌, take, map}
use Rattle.registry_rows.proofs.kinds.values_of_rows.Given as goal

-- the values so far are the first rows, read
abbrev pub invariant-loop-row : goal.invariant-loop-row
invariant-loop-row g l = map g.K.RowKind.seen l.values.items ≡ map g.K.RowKind.spelled (take l.row-index l.rows)
