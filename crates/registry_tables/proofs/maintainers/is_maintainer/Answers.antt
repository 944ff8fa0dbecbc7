use Rattle.registry_tables.proofs.MaintainerFacts.{find_means, maintainer_found}
use Rattle.registry_tables.proofs.InsideFacts.{is_query}
use Rattle.registry_tables.proofs.maintainers.is_maintainer.Goals as goal

pub returns : goal.returns
returns g c = c.has.ensures _ (is_query find_means) (rw (c.params-to_sql.ensures, c.params-to_sql-2.ensures, c.text.ensures.text, c.text-2.ensures.text) (maintainer_found c.args.name.now c.args.user.now _ _))
