use Rattle.std.proofs.Common.{◌≡◌}
use Rattle.registry_tests_tables.proofs.tests.rows.all_come_out.Given as goal

-- the transaction is the one that was handed in
abbrev pub invariant-loop-line : goal.invariant-loop-line
invariant-loop-line g l = record { same_reference : l.tx.conn.ghost_name ≡ l.fn.tx.conn.ghost_name }
