use Rattle.registry_tables.proofs.InsideFacts.{is_query}
use Rattle.registry_tables.proofs.TagFacts.{list_means, tags_listed}
use Rattle.registry_tables.proofs.tags.load_tags.Goals as goal

pub returns : goal.returns
returns g c = c.list.ensures _ (is_query list_means) (rw (c.params-to_sql.ensures, c.text.ensures.text) (tags_listed c.args.name.now _ _))
