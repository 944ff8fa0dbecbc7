use Rattle.registry_tables.proofs.InsideFacts.{is_query}
use Rattle.registry_tables.proofs.RangeFacts.{spent_means, spent_tested}
use Rattle.registry_tables.proofs.numbers.find_spent.Goals as goal

pub returns : goal.returns
returns g c = c.all_rows_pass.ensures _ (is_query spent_means) (spent_tested _ _)
