use Rattle.registry_tables.proofs.Words.{SFits, w64, rules, to_z-of_z}
use Rattle.registry_tables.proofs.InsideFacts.{write_makes}
use Rattle.registry_tables.proofs.WithdrawalFacts.{withdrawal_put, withdrawal_was_new}
use Rattle.registry_tables.proofs.spent.put_withdrawal.Goals as goal

pub returns-clause-makes : goal.returns-clause-makes
returns-clause-makes g c =
    let first : SFits w64 c.seconds.result = search rules in
    let second : SFits w64 c.seconds-2.result = search rules in
    write_makes g.S.Store _ _ c.args.tx.now c.write.new.tx c.write.result c.write.ensures.stays
    (rw (c.params-to_sql.ensures, c.params-to_sql-2.ensures, c.params-to_sql-3.ensures, c.params-to_sql-4.ensures, c.text.ensures.text, to_z-of_z w64 c.seconds.result first, c.seconds.ensures.seconds, to_z-of_z w64 c.seconds-2.result second, c.seconds-2.ensures.seconds) at c.write.ensures.wrote)
    (λ form wrote clean. (withdrawal_was_new c.args.name.now c.args.version.now c.args.published c.args.withdrawn _ _ form wrote clean, withdrawal_put c.args.name.now c.args.version.now c.args.published c.args.withdrawn _ _ form wrote clean))
