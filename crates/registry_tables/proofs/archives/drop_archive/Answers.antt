use Rattle.registry_tables.proofs.Words.{SFits, w64, rules, to_z-of_z}
use Rattle.registry_tables.proofs.InsideFacts.{write_makes}
use Rattle.registry_tables.proofs.WithdrawalFacts.{archive_dropped}
use Rattle.registry_tables.proofs.archives.drop_archive.Goals as goal

pub returns : goal.returns
returns g c =
    let fits : SFits w64 c.args.number = search rules in
    write_makes g.S.Store _ _ c.args.tx.now c.write.new.tx c.write.result c.write.ensures.stays
    (rw (c.params-to_sql.ensures, to_z-of_z w64 c.args.number fits) at c.write.ensures.wrote)
    (λ form wrote clean. (tt, archive_dropped c.args.number _ _ form wrote clean))
