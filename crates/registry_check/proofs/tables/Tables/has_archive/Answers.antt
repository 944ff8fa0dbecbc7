use Rattle.std.proofs.Common.{◌∙◌, rules}
use Rattle.registry_names.specs.Keys.{pair_cmp}
use Rattle.registry_names.proofs.KeyFacts.{pair_key}
use Rattle.registry_check.specs.declared.tables.HeldRow.{HeldRow}
use Rattle.registry_check.specs.Rows.{held_entry}
use Rattle.registry_check.proofs.OrderFacts.{rises}
use Rattle.registry_check.proofs.SearchFacts.{has_mapped}
use Rattle.registry_check.proofs.tables.Tables.has_archive.Goals as goal

pub returns : goal.returns
returns c =
    let call = rw c.deref.ensures.value at c.contains.ensures in
    call (λ (r : HeldRow). pair_cmp (r.package, r.version) (c.args.name.now, c.args.version.now)) (λ row answer k. search rules) (rises pair_key.total (λ (r : HeldRow). (r.package, r.version)) _ (c.args.name.now, c.args.version.now) c.args.self.now.versions.held_rise)
    ∙ has_mapped pair_key held_entry (c.args.name.now, c.args.version.now) c.args.self.now.versions.held.items
