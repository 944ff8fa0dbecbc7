use Rattle.registry_tables.proofs.Words.{◌≡◌, true, take, list_all}
use Rattle.registry_tables.proofs.passing.all_pass.Given as goal

-- the rows so far pass
abbrev pub invariant-loop-row : goal.invariant-loop-row
invariant-loop-row g l = list_all g.T.RowTest.passes (take l.row-index l.rows) ≡ true
