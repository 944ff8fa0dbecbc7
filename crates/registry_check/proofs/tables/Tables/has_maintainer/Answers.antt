use Rattle.std.proofs.Common.{◌∙◌, rules}
use Rattle.registry_names.specs.Texts.{text_cmp}
use Rattle.registry_names.proofs.KeyFacts.{text_key}
use Rattle.registry_access.specs.declared.rows.MaintainerRow.{MaintainerRow}
use Rattle.registry_access.specs.RowMaps.{maintainer_entry}
use Rattle.registry_check.proofs.OrderFacts.{rises, rises_by_first}
use Rattle.registry_check.proofs.SearchFacts.{begin_mapped}
use Rattle.registry_check.proofs.tables.Tables.has_maintainer.Goals as goal

pub returns : goal.returns
returns c =
    let call = rw c.deref.ensures.value at c.contains.ensures in
    let first = rises_by_first text_cmp (λ (r : MaintainerRow). (r.package, r.user)) _ c.args.self.now.packages.maintainers_rise in
    call (λ (r : MaintainerRow). text_cmp r.package c.args.name.now) (λ row answer k. search rules) (rises text_key.total (λ (r : MaintainerRow). r.package) _ c.args.name.now first)
    ∙ begin_mapped maintainer_entry c.args.name.now c.args.self.now.packages.maintainers.items
