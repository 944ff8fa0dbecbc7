use Rattle.registry_tables.proofs.InsideFacts.{is_query}
use Rattle.registry_tables.proofs.StatusFacts.{list_means, statuses_listed}
use Rattle.registry_tables.proofs.packages.load_statuses.Goals as goal

pub returns : goal.returns
returns g c = c.list.ensures _ (is_query list_means) (statuses_listed _ _)
