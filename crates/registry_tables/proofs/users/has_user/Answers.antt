use Rattle.registry_tables.proofs.InsideFacts.{is_query}
use Rattle.registry_tables.proofs.UserFacts.{find_means, user_found}
use Rattle.registry_tables.proofs.users.has_user.Goals as goal

pub returns : goal.returns
returns g c = c.has.ensures _ (is_query find_means) (rw (c.params-to_sql.ensures, c.text.ensures.text) (user_found c.args.user.now _ _))
