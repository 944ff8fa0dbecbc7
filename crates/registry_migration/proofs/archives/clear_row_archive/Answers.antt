use Rattle.registry_rows.proofs.QuietFacts.{on_answer}
use Rattle.registry_tables.specs.Effects.{shown}
use Rattle.registry_migration.proofs.StatementFacts.{archive_cleared}
use Rattle.registry_migration.proofs.archives.clear_row_archive.Goals as goal

pub returns-clause-makes : goal.returns-clause-makes
returns-clause-makes g c clean = on_answer c.write.result
    (λ wrote. archive_cleared c.args.version.now.package c.args.version.now.version (shown g.S.Store c.args.tx.now) (shown g.S.Store c.write.new.tx) c.requires.in_form wrote clean)
    (rw (c.params-to_sql.ensures, c.params-to_sql-2.ensures, c.params-to_sql-3.ensures, c.as_str.ensures.text, c.as_str-2.ensures.text) at c.write.ensures.wrote)
