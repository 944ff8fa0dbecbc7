use Rattle.registry_tables.proofs.InsideFacts.{found_as_is, is_query}
use Rattle.registry_tables.proofs.TokenFacts.{find_means, user_of_found}
use Rattle.registry_tables.proofs.tokens.find_user.Goals as goal

pub returns : goal.returns
returns g c = found_as_is g.S.Store c.args.tx.now c.find.new.tx c.find.result (c.find.ensures _ (is_query find_means) (rw (c.params-to_sql.ensures, c.as_slice.ensures.value) (user_of_found c.args.digest.now _ _)))
