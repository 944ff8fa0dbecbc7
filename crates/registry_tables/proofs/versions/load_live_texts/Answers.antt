use Rattle.registry_tables.proofs.InsideFacts.{is_query}
use Rattle.registry_tables.proofs.VersionFacts.{live_listed, live_means}
use Rattle.registry_tables.proofs.versions.load_live_texts.Goals as goal

pub returns : goal.returns
returns g c = c.texts.ensures _ (is_query live_means) (rw (c.params-to_sql.ensures, c.text.ensures.text) (live_listed c.args.name.now _ _))
