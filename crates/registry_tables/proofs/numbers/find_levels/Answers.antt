use Rattle.registry_tables.proofs.InsideFacts.{is_query}
use Rattle.registry_tables.proofs.RangeFacts.{levels_means, levels_tested}
use Rattle.registry_tables.proofs.numbers.find_levels.Goals as goal

pub returns : goal.returns
returns g c = c.all_rows_pass.ensures _ (is_query levels_means) (levels_tested _ _)
