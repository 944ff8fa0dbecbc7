use Rattle.registry_tests_tables.proofs.tests.tables.walks.source_text.Goals as goal

pub rows-init : goal.rows-init
rows-init g c = g.met.S.VersionSource.leaves_itself c.args.source.now

pub rows-preserved : goal.rows-preserved
rows-preserved g c = g.met.S.VersionSource.leaves_through c.args.source.now c.rows.source c.next.new.self c.rows.invariant c.in_ok-row.ensures.behind
