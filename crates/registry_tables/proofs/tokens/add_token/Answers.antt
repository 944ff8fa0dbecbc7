use Rattle.registry_tables.proofs.InsideFacts.{write_makes}
use Rattle.registry_tables.proofs.TokenFacts.{token_put, token_was_new}
use Rattle.registry_tables.proofs.tokens.add_token.Goals as goal

pub returns : goal.returns
returns g c = write_makes g.S.Store _ _ c.args.tx.now c.write.new.tx c.write.result c.write.ensures.stays
    (rw (c.params-to_sql.ensures, c.params-to_sql-2.ensures, c.as_slice.ensures.value) at c.write.ensures.wrote)
    (λ form wrote clean. (token_was_new c.args.digest.now c.args.user.now _ _ form wrote clean, token_put c.args.digest.now c.args.user.now _ _ form wrote clean))
