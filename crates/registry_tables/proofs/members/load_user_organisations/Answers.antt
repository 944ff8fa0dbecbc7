use Rattle.registry_tables.proofs.FirstsFacts.{organisations_listed, organisations_means}
use Rattle.registry_tables.proofs.InsideFacts.{is_query}
use Rattle.registry_tables.proofs.members.load_user_organisations.Goals as goal

pub returns : goal.returns
returns g c = c.texts.ensures _ (is_query organisations_means) (rw (c.params-to_sql.ensures, c.text.ensures.text) (organisations_listed c.args.user.now _ _))
