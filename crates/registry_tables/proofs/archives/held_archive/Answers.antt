use Rattle.registry_tables.proofs.ArchiveFacts.{held_found, held_means}
use Rattle.registry_tables.proofs.InsideFacts.{found_as_is, is_query}
use Rattle.registry_tables.proofs.archives.held_archive.Goals as goal

pub returns : goal.returns
returns g c = found_as_is g.S.Store c.args.tx.now c.find.new.tx c.find.result (c.find.ensures _ (is_query held_means) (rw (c.params-to_sql.ensures, c.params-to_sql-2.ensures, c.text.ensures.text) (held_found c.args.name.now c.args.version.now _ _)))
