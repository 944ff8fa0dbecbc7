use Rattle.registry_tables.proofs.Words.{shown}
use Rattle.registry_tables.proofs.InsideFacts.{write_makes}
use Rattle.registry_tables.proofs.WithdrawalFacts.{version_dropped, version_untagged}
use Rattle.registry_tables.proofs.withdrawals.drop_version.Goals as goal

pub returns : goal.returns
returns g c = write_makes g.S.Store _ _ c.args.tx.now c.write.new.tx c.write.result c.write.ensures.stays
    (rw (c.params-to_sql.ensures, c.params-to_sql-2.ensures, c.text.ensures.text) at c.write.ensures.wrote)
    (λ form wrote clean. let left = version_dropped c.args.name.now c.args.version.now _ _ form wrote clean in (version_untagged c.args.name.now c.args.version.now (shown g.S.Store c.args.tx.now) (shown g.S.Store c.write.new.tx) left, left))
