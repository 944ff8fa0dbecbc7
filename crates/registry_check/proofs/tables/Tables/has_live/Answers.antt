use Rattle.std.proofs.Common.{◌∙◌, rules}
use Rattle.registry_names.specs.Texts.{text_cmp}
use Rattle.registry_names.proofs.KeyFacts.{text_key}
use Rattle.registry_check.specs.declared.tables.LiveRow.{LiveRow}
use Rattle.registry_check.specs.Rows.{live_entry}
use Rattle.registry_check.proofs.OrderFacts.{rises, rises_by_first}
use Rattle.registry_check.proofs.SearchFacts.{begin_mapped}
use Rattle.registry_check.proofs.tables.Tables.has_live.Goals as goal

pub returns : goal.returns
returns c =
    let call = rw c.deref.ensures.value at c.contains.ensures in
    let first = rises_by_first text_cmp (λ (r : LiveRow). (r.package, r.version)) _ c.args.self.now.versions.live_rise in
    call (λ (r : LiveRow). text_cmp r.package c.args.name.now) (λ row answer k. search rules) (rises text_key.total (λ (r : LiveRow). r.package) _ c.args.name.now first)
    ∙ begin_mapped live_entry c.args.name.now c.args.self.now.versions.live.items
