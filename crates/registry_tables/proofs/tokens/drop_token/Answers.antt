use Rattle.registry_tables.proofs.InsideFacts.{write_makes}
use Rattle.registry_tables.proofs.TokenFacts.{token_dropped}
use Rattle.registry_tables.proofs.tokens.drop_token.Goals as goal

pub returns : goal.returns
returns g c = write_makes g.S.Store _ _ c.args.tx.now c.write.new.tx c.write.result c.write.ensures.stays
    (rw (c.params-to_sql.ensures, c.as_slice.ensures.value) at c.write.ensures.wrote)
    (λ form wrote clean. (tt, token_dropped c.args.digest.now _ _ form wrote clean))
