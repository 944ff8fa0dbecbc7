use Rattle.std.proofs.Common.{◌∙◌, rules}
use Rattle.registry_rows.specs.TextKeys.{texts_cmp}
use Rattle.registry_rows.proofs.TextKeyFacts.{texts_key}
use Rattle.registry_check.specs.declared.tables.NeedRow.{NeedRow}
use Rattle.registry_check.specs.Rows.{need_entry}
use Rattle.registry_check.proofs.OrderFacts.{rises}
use Rattle.registry_check.proofs.SearchFacts.{has_mapped}
use Rattle.registry_check.proofs.tables.Tables.has_need.Goals as goal

pub returns : goal.returns
returns c =
    let call = rw c.deref.ensures.value at c.contains.ensures in
    call (λ (r : NeedRow). texts_cmp 3 (r.package, (r.version, (r.target, r.range))) (c.args.name.now, (c.args.version.now, (c.args.need.now.target, c.args.need.now.range)))) (λ row answer k. search rules) (rises (texts_key 3).total (λ (r : NeedRow). (r.package, (r.version, (r.target, r.range)))) _ (c.args.name.now, (c.args.version.now, (c.args.need.now.target, c.args.need.now.range))) c.args.self.now.versions.needs_rise)
    ∙ has_mapped (texts_key 3) need_entry (c.args.name.now, (c.args.version.now, (c.args.need.now.target, c.args.need.now.range))) c.args.self.now.versions.needs.items
