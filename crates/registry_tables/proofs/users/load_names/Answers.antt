use Rattle.registry_tables.proofs.InsideFacts.{is_query}
use Rattle.registry_tables.proofs.UserFacts.{list_means, users_listed}
use Rattle.registry_tables.proofs.users.load_names.Goals as goal

pub returns : goal.returns
returns g c = c.texts.ensures _ (is_query list_means) (users_listed _ _)
