use Rattle.registry_tables.proofs.InsideFacts.{is_query}
use Rattle.registry_tables.proofs.RangeFacts.{statuses_tested}
use Rattle.registry_tables.proofs.StatusFacts.{list_means}
use Rattle.registry_tables.proofs.numbers.find_statuses.Goals as goal

pub returns : goal.returns
returns g c = c.all_rows_pass.ensures _ (is_query list_means) (statuses_tested _ _)
