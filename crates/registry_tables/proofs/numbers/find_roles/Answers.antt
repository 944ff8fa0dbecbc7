use Rattle.registry_tables.proofs.InsideFacts.{is_query}
use Rattle.registry_tables.proofs.RangeFacts.{roles_means, roles_tested}
use Rattle.registry_tables.proofs.numbers.find_roles.Goals as goal

pub returns : goal.returns
returns g c = c.all_rows_pass.ensures _ (is_query roles_means) (roles_tested _ _)
