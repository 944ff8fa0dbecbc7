use Rattle.std.proofs.Common.{◌≡◌, ◌++◌, map, take}
use Rattle.registry_check.specs.Problems.{problems_of}
use Rattle.registry_check.specs.Rows.{rows_of}
use Rattle.registry_check.proofs.checked.push_problems.Given as goal

-- the problems of the rows so far are added
abbrev pub invariant-loop-row : goal.invariant-loop-row
invariant-loop-row g l = l.problems.items ≡ l.fn.problems.items ++ problems_of g.K.Checked.about (g.K.Checked.tried (rows_of l.all)) (map g.K.Checked.entry (take l.row-index l.rows))
