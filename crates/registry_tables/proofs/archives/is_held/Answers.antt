use Rattle.registry_tables.proofs.Words.{SFits, w64, rules, to_z-of_z}
use Rattle.registry_tables.proofs.InsideFacts.{is_query}
use Rattle.registry_tables.proofs.WithdrawalFacts.{archive_had, holders_means}
use Rattle.registry_tables.proofs.archives.is_held.Goals as goal

pub returns : goal.returns
returns g c =
    let fits : SFits w64 c.args.number = search rules in
    c.has.ensures _ (is_query holders_means) (rw (c.params-to_sql.ensures, to_z-of_z w64 c.args.number fits) (archive_had c.args.number _ _))
