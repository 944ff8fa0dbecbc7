use Rattle.std.proofs.Common.{◌∙◌, rules}
use Rattle.registry_names.specs.Texts.{text_cmp}
use Rattle.registry_names.proofs.KeyFacts.{text_key}
use Rattle.registry_access.specs.declared.rows.PackageRow.{PackageRow}
use Rattle.registry_access.specs.RowMaps.{package_entry}
use Rattle.registry_check.proofs.OrderFacts.{rises}
use Rattle.registry_check.proofs.SearchFacts.{has_mapped}
use Rattle.registry_check.proofs.tables.Tables.has_package.Goals as goal

pub returns : goal.returns
returns c =
    let call = rw c.deref.ensures.value at c.contains.ensures in
    call (λ (r : PackageRow). text_cmp r.package c.args.name.now) (λ row answer k. search rules) (rises text_key.total (λ (r : PackageRow). r.package) _ c.args.name.now c.args.self.now.packages.published_rise)
    ∙ has_mapped text_key package_entry c.args.name.now c.args.self.now.packages.published.items
