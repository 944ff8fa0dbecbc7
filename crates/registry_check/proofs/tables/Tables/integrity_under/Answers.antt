use Rattle.std.proofs.Common.{Bor, ◌∙◌, ℤ, ap, option_map, rules}
use Rattle.std.specs.Ordering.{int_cmp}
use Rattle.registry_names.specs.Texts.{Text}
use Rattle.registry_rows.proofs.KeyedFacts.{number_key}
use Rattle.registry_check.specs.Rows.{archive_entry}
use Rattle.registry_check.specs.declared.tables.ArchiveRow.{ArchiveRow}
use Rattle.registry_check.proofs.OrderFacts.{rises}
use Rattle.registry_check.proofs.SearchFacts.{first_mapped, twice}
use Rattle.registry_check.proofs.tables.Tables.integrity_under.Goals as goal

pub returns : goal.returns
returns c =
    let call = rw c.deref.ensures.value at c.first_with.ensures in
    let found = call (λ (r : ArchiveRow). int_cmp r.number c.args.number) (λ row answer k. search rules) (rises number_key.total (λ (r : ArchiveRow). r.number) _ c.args.number c.args.self.now.versions.archives_rise) in
    c.integrity_in.ensures ∙ twice (λ (r : Bor ArchiveRow). r.now) (λ (r : ArchiveRow). r.integrity) c.first_with.result ∙ ap (option_map (λ (r : ArchiveRow). r.integrity)) found
    ∙ first_mapped number_key archive_entry c.args.number (λ (e : ℤ × Text). e.1) c.args.self.now.versions.archives.items
