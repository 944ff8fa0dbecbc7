use Rattle.registry_tables.proofs.InsideFacts.{write_makes}
use Rattle.registry_tables.proofs.GrantFacts.{grant_dropped}
use Rattle.registry_tables.proofs.grants.drop_grant.Goals as goal

pub returns : goal.returns
returns g c = write_makes g.S.Store _ _ c.args.tx.now c.write.new.tx c.write.result c.write.ensures.stays
    (rw (c.params-to_sql.ensures, c.params-to_sql-2.ensures, c.params-to_sql-3.ensures) at c.write.ensures.wrote)
    (λ form wrote clean. (tt, grant_dropped c.args.organisation.now c.args.team.now c.args.name.now _ _ form wrote clean))
