use Rattle.std.proofs.Common.{◌∙◌, rules}
use Rattle.registry_names.specs.Keys.{pair_cmp}
use Rattle.registry_names.proofs.KeyFacts.{pair_key}
use Rattle.registry_check.specs.declared.tables.TagRow.{TagRow}
use Rattle.registry_check.specs.Rows.{tag_entry}
use Rattle.registry_check.proofs.OrderFacts.{rises}
use Rattle.registry_check.proofs.SearchFacts.{has_mapped}
use Rattle.registry_check.proofs.tables.Tables.has_tag.Goals as goal

pub returns : goal.returns
returns c =
    let call = rw c.deref.ensures.value at c.contains.ensures in
    call (λ (r : TagRow). pair_cmp (r.package, r.tag) (c.args.name.now, c.args.tag.now)) (λ row answer k. search rules) (rises pair_key.total (λ (r : TagRow). (r.package, r.tag)) _ (c.args.name.now, c.args.tag.now) c.args.self.now.marks.tags_rise)
    ∙ has_mapped pair_key tag_entry (c.args.name.now, c.args.tag.now) c.args.self.now.marks.tags.items
