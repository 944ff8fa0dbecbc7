use Rattle.registry_tables.proofs.Words.{SFits, w64, rules, to_z-of_z, ℤ, ap, put, with_archive, version_of}
use Rattle.registry_tables.proofs.ThenFacts.{makes_then}
use Rattle.registry_tables.proofs.archives.put_archive.Goals as goal

pub returns : goal.returns
returns g c =
    let form = c.args.form.now in
    let fits : SFits w64 c.in_ok-number.number = search rules in
    makes_then g.S.Store c.args.tx.now c.store_archive.new.tx c.hold_archive.new.tx _ c.hold_archive.result
    (rw (c.integrity.ensures.value, c.archive.ensures) at c.in_ok-number.ensures)
    (rw (c.text.ensures.text, c.name.ensures.value, c.text-2.ensures.text, c.version.ensures.value, to_z-of_z w64 c.in_ok-number.number fits) at c.hold_archive.ensures)
    (λ d is. ap (λ (n : ℤ). record (with_archive form.integrity form.archive d) { held = put d.held (form.name, version_of form) n }) is) (λ d is y free. tt)
