use Rattle.registry_tables.proofs.InsideFacts.{is_query}
use Rattle.registry_tables.proofs.VersionFacts.{find_means, version_found}
use Rattle.registry_tables.proofs.versions.has_version.Goals as goal

pub returns : goal.returns
returns g c = c.has.ensures _ (is_query find_means) (rw (c.params-to_sql.ensures, c.params-to_sql-2.ensures, c.text.ensures.text) (version_found c.args.name.now c.args.version.now _ _))
