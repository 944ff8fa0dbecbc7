use Rattle.registry_tables.proofs.InsideFacts.{is_query}
use Rattle.registry_tables.proofs.VersionFacts.{first_means, live_found}
use Rattle.registry_tables.proofs.versions.has_live.Goals as goal

pub returns : goal.returns
returns g c = c.has.ensures _ (is_query first_means) (rw (c.params-to_sql.ensures, c.text.ensures.text) (live_found c.args.name.now _ _))
