use Rattle.sqlite.specs.Held.{state}
use Rattle.registry_tests_tables.proofs.WalkFacts.{walked_awaits}
use Rattle.registry_tests_tables.proofs.tests.tables.walks.walked.Goals as goal

pub returns : goal.returns
returns g c = record {
  awaits =
      walked_awaits c.text_of_walk.result (state g.S.Store c.args.conn.now) (state g.S.Store c.text_of_walk.new.conn) c.requires.awaits c.text_of_walk.ensures.left c.text_of_walk.ensures.unshut;
}
