use Rattle.registry_tests_tables.proofs.tests.tables.walks.source_text.Given as goal

abbrev pub invariant-rows : goal.invariant-rows
invariant-rows g l = g.S.VersionSource.leaves l.fn.source l.source

abbrev pub decreases-rows : goal.decreases-rows
decreases-rows g l = g.S.VersionSource.most l.source
