use Rattle.registry_tables.proofs.InsideFacts.{is_query}
use Rattle.registry_tables.proofs.VersionFacts.{times_listed, times_means}
use Rattle.registry_tables.proofs.versions.load_times.Goals as goal

pub returns : goal.returns
returns g c = c.list.ensures _ (is_query times_means) (rw (c.params-to_sql.ensures, c.text.ensures.text) (times_listed c.args.name.now _ _))
