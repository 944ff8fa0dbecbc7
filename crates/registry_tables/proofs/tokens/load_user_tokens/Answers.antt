use Rattle.registry_tables.proofs.InsideFacts.{is_query, listed_as_is}
use Rattle.registry_tables.proofs.TokenFacts.{list_means, tokens_listed}
use Rattle.registry_tables.proofs.tokens.load_user_tokens.Goals as goal

pub returns : goal.returns
returns g c = listed_as_is g.S.Store c.args.tx.now c.list.new.tx _ c.list.result (c.list.ensures _ (is_query list_means) (rw (c.params-to_sql.ensures, c.text.ensures.text) (tokens_listed c.args.user.now _ _)))
