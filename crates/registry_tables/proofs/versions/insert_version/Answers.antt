use Rattle.registry_tables.proofs.Words.{SFits, w64, rules, to_z-of_z, shown, version_of}
use Rattle.registry_tables.proofs.InsideFacts.{write_makes}
use Rattle.registry_tables.proofs.ParentFacts.{version_has_package}
use Rattle.registry_tables.proofs.VersionFacts.{version_inserted, version_is_new}
use Rattle.registry_tables.proofs.versions.insert_version.Goals as goal

pub returns-clause-makes : goal.returns-clause-makes
returns-clause-makes g c =
    let fits : SFits w64 c.seconds.result = search rules in
    let p = c.args.form.now.name in
    let v = version_of c.args.form.now in
    write_makes g.S.Store _ _ c.args.tx.now c.write.new.tx c.write.result c.write.ensures.stays
    (rw (c.params-to_sql.ensures, c.params-to_sql-2.ensures, c.params-to_sql-3.ensures, c.params-to_sql-4.ensures, c.text.ensures.text, c.name.ensures.value, c.text-2.ensures.text, c.version.ensures.value, to_z-of_z w64 c.seconds.result fits, c.seconds.ensures.seconds, c.manifest_text.ensures.value) at c.write.ensures.wrote)
    (λ form wrote clean.
    let left = version_inserted p v c.args.published c.args.form.now.manifest _ _ form wrote clean in
    ((version_is_new p v c.args.published c.args.form.now.manifest _ _ form wrote clean, version_has_package p v _ _ (shown g.S.Store c.write.new.tx) left), left))
