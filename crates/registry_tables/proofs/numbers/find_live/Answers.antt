use Rattle.registry_tables.proofs.InsideFacts.{is_query}
use Rattle.registry_tables.proofs.RangeFacts.{live_means, live_tested}
use Rattle.registry_tables.proofs.numbers.find_live.Goals as goal

pub returns : goal.returns
returns g c = c.all_rows_pass.ensures _ (is_query live_means) (live_tested _ _)
