use Rattle.registry_tables.proofs.InsideFacts.{found_as_is, is_query}
use Rattle.registry_tables.proofs.StatusFacts.{find_means, status_found}
use Rattle.registry_tables.proofs.statuses.find_status.Goals as goal

pub returns : goal.returns
returns g c = found_as_is g.S.Store c.args.tx.now c.find.new.tx c.find.result (c.find.ensures _ (is_query find_means) (rw (c.params-to_sql.ensures) (status_found c.args.name.now _ _)))
