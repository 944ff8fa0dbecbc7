use Rattle.registry_tables.proofs.NamingFacts.{naming_listed, naming_means}
use Rattle.registry_tables.proofs.InsideFacts.{is_query}
use Rattle.registry_tables.proofs.tags.load_version_tags.Goals as goal

pub returns : goal.returns
returns g c = c.texts.ensures _ (is_query naming_means) (rw (c.params-to_sql.ensures, c.params-to_sql-2.ensures, c.text.ensures.text) (naming_listed c.args.name.now c.args.version.now _ _))
