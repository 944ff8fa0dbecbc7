use Rattle.registry_tables.proofs.Words.{SFits, w64, rules, to_z-of_z}
use Rattle.registry_tables.proofs.ArchiveFacts.{bytes_found, bytes_means}
use Rattle.registry_tables.proofs.InsideFacts.{found_as_is, is_query}
use Rattle.registry_tables.proofs.archives.find_bytes.Goals as goal

pub returns : goal.returns
returns g c =
    let fits : SFits w64 c.args.number = search rules in
    found_as_is g.S.Store c.args.tx.now c.find.new.tx c.find.result (c.find.ensures _ (is_query bytes_means) (rw (c.params-to_sql.ensures, to_z-of_z w64 c.args.number fits) (bytes_found c.args.number _ _)))
