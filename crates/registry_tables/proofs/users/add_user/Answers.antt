use Rattle.registry_tables.proofs.InsideFacts.{write_makes}
use Rattle.registry_tables.proofs.UserFacts.{user_put, user_was_new}
use Rattle.registry_tables.proofs.users.add_user.Goals as goal

pub returns : goal.returns
returns g c = write_makes g.S.Store _ _ c.args.tx.now c.write.new.tx c.write.result c.write.ensures.stays
    (rw (c.params-to_sql.ensures) at c.write.ensures.wrote)
    (λ form wrote clean. (user_was_new c.args.user.now _ _ form wrote clean, user_put c.args.user.now _ _ form wrote clean))
