use Rattle.std.proofs.Common.{arith}
use Rattle.registry_rows.proofs.QuietFacts.{on_answer}
use Rattle.registry_tables.specs.Effects.{shown}
use Rattle.registry_migration.proofs.KeyFacts.{one_at}
use Rattle.registry_migration.proofs.StatementFacts.{number_put}
use Rattle.registry_migration.proofs.number.put_number.Goals as goal

pub returns-clause-makes : goal.returns-clause-makes
returns-clause-makes g c clean =
    let there = one_at _ (c.requires.numbered (omega (arith, c.write.ensures.stays.survives.clean, clean))) in
    on_answer c.write.result
    (λ wrote. number_put there.0 (shown g.S.Store c.args.tx.now) (shown g.S.Store c.write.new.tx) there.1 c.requires.in_form wrote clean)
    (rw (c.params-to_sql.ensures, c.params-to_sql-2.ensures) at c.write.ensures.wrote)
