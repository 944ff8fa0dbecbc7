use Rattle.registry_tables.proofs.MaintainerFacts.{list_means, maintainers_listed}
use Rattle.registry_tables.proofs.InsideFacts.{is_query}
use Rattle.registry_tables.proofs.maintainers.load_maintainers.Goals as goal

pub returns : goal.returns
returns g c = c.texts.ensures _ (is_query list_means) (rw (c.params-to_sql.ensures, c.text.ensures.text) (maintainers_listed c.args.name.now _ _))
