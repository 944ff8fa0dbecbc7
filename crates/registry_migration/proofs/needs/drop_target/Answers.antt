use Rattle.registry_rows.proofs.QuietFacts.{on_answer}
use Rattle.registry_tables.specs.Effects.{shown}
use Rattle.registry_migration.proofs.StatementFacts.{target_dropped}
use Rattle.registry_migration.proofs.needs.drop_target.Goals as goal

pub returns-clause-makes : goal.returns-clause-makes
returns-clause-makes g c clean = on_answer c.write.result
    (λ wrote. target_dropped c.args.name.now c.args.version.now c.args.target.now (shown g.S.Store c.args.tx.now) (shown g.S.Store c.write.new.tx) c.requires.in_form wrote clean)
    (rw (c.params-to_sql.ensures, c.params-to_sql-2.ensures, c.params-to_sql-3.ensures) at c.write.ensures.wrote)
