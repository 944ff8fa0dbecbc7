use Rattle.registry_tables.proofs.Words.{SFits, w64, rules, to_z-of_z}
use Rattle.registry_tables.proofs.InsideFacts.{write_makes}
use Rattle.registry_tables.proofs.ArchiveFacts.{archive_held, held_was_new}
use Rattle.registry_tables.proofs.archives.hold_archive.Goals as goal

pub returns : goal.returns
returns g c =
    let fits : SFits w64 c.args.number = search rules in
    write_makes g.S.Store _ _ c.args.tx.now c.write.new.tx c.write.result c.write.ensures.stays
    (rw (c.params-to_sql.ensures, c.params-to_sql-2.ensures, c.params-to_sql-3.ensures, to_z-of_z w64 c.args.number fits) at c.write.ensures.wrote)
    (λ form wrote clean. (held_was_new c.args.name.now c.args.version.now c.args.number _ _ form wrote clean, archive_held c.args.name.now c.args.version.now c.args.number _ _ form wrote clean))
