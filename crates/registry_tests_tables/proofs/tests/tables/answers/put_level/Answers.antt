use Rattle.registry_tests_tables.proofs.RowFacts.{grant_keeps}
use Rattle.registry_tests_tables.proofs.WholeFacts.{write_whole}
use Rattle.registry_tests_tables.proofs.tests.tables.answers.put_level.Goals as goal

pub returns-clause-whole : goal.returns-clause-whole
returns-clause-whole g c = write_whole g.S.Store c.args.tx.now c.write.new.tx _ _ c.write.result (grant_keeps _ _ _ _ _ _)
    (rw (c.params-to_sql.ensures, c.params-to_sql-2.ensures, c.params-to_sql-3.ensures, c.params-to_sql-4.ensures) at c.write.ensures.wrote) c.requires.whole
