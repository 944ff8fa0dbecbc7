use Rattle.registry_tables.proofs.InsideFacts.{write_makes}
use Rattle.registry_tables.proofs.MaintainerFacts.{owner_dropped}
use Rattle.registry_tables.proofs.maintainers.drop_owner.Goals as goal

pub returns : goal.returns
returns g c = write_makes g.S.Store _ _ c.args.tx.now c.write.new.tx c.write.result c.write.ensures.stays
    (rw (c.params-to_sql.ensures, c.params-to_sql-2.ensures) at c.write.ensures.wrote)
    (λ form wrote clean. (tt, owner_dropped c.args.name.now c.args.user.now _ _ form wrote clean))
