use Rattle.std.proofs.Common.{rules, ◌∙◌}
use Rattle.std.specs.Ordering.{int_cmp}
use Rattle.registry_rows.proofs.KeyedFacts.{number_key}
use Rattle.registry_check.specs.Rows.{archive_entry}
use Rattle.registry_check.specs.declared.tables.ArchiveRow.{ArchiveRow}
use Rattle.registry_check.proofs.OrderFacts.{rises}
use Rattle.registry_check.proofs.SearchFacts.{has_mapped}
use Rattle.registry_check.proofs.tables.Tables.is_stored.Goals as goal

pub returns : goal.returns
returns c =
    let call = rw c.deref.ensures.value at c.contains.ensures in
    call (λ (r : ArchiveRow). int_cmp r.number c.args.number) (λ row answer k. search rules) (rises number_key.total (λ (r : ArchiveRow). r.number) _ c.args.number c.args.self.now.versions.archives_rise)
    ∙ has_mapped number_key archive_entry c.args.number c.args.self.now.versions.archives.items
