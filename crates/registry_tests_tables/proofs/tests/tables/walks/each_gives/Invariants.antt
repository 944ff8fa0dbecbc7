use Rattle.sqlite.specs.Held.{state}
use Rattle.registry_tests_tables.specs.Resting.{AwaitsWalk}
use Rattle.registry_tests_tables.proofs.tests.tables.walks.each_gives.Given as goal

abbrev pub invariant-loop-walk : goal.invariant-loop-walk
invariant-loop-walk g l = AwaitsWalk (state g.S.Store l.conn)
