use Rattle.registry_tables.proofs.InsideFacts.{is_query}
use Rattle.registry_tables.proofs.TagFacts.{find_means, tag_found}
use Rattle.registry_tables.proofs.tags.has_tag.Goals as goal

pub returns : goal.returns
returns g c = c.has.ensures _ (is_query find_means) (rw (c.params-to_sql.ensures, c.params-to_sql-2.ensures, c.text.ensures.text) (tag_found c.args.name.now c.args.tag.now _ _))
