use Rattle.registry_tests_tables.proofs.tests.tables.walks.walk_text.Goals as goal

pub returns-clause-same_rows : goal.returns-clause-same_rows
returns-clause-same_rows g c = c.source_text.ensures.behind.same_rows

pub returns-clause-goes_on : goal.returns-clause-goes_on
returns-clause-goes_on g c = c.source_text.ensures.behind

pub returns-clause-unstopped : goal.returns-clause-unstopped
returns-clause-unstopped g c = c.source_text.ensures.goes_on
