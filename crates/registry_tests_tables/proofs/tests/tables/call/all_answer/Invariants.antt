use Rattle.std.proofs.Common.{◌≡◌}
use Rattle.registry_tests_tables.specs.Resting.{IsWhole}
use Rattle.registry_tests_tables.proofs.tests.tables.call.all_answer.Given as goal

-- it goes on, with its tables in form, in the transaction that was handed in
abbrev pub invariant-loop-line : goal.invariant-loop-line
invariant-loop-line g l = record {
  same_reference : l.tx.conn.ghost_name ≡ l.fn.tx.conn.ghost_name;
  whole : IsWhole g.S.Store l.tx;
}
