use Rattle.std.proofs.Common.{◌∙◌, ap, map, option_map}
use Rattle.registry_rules.specs.Changes.{change_of}
use Rattle.registry_rules.specs.Effects.{freed}
use Rattle.registry_rules.specs.Withdrawals.{text_seen}
use Rattle.registry_rules.proofs.ListedFacts.{changes_more}
use Rattle.registry_rules.proofs.withdrawals.all_freed.Goals as goal

pub loop-tag-preserved : goal.loop-tag-preserved
loop-tag-preserved c =
    let g = freed c.args.name.now (option_map text_seen c.args.other) in
    ap (map change_of) c.in_ok-push.ensures.items
    ∙ changes_more change_of g c.loop-tag.changes.items c.freed.result c.args.tags.now c.loop-tag.tag-index c.tag-item.result c.loop-tag-test.true c.loop-tag.invariant (c.freed.ensures ∙ ap g c.tag-item.is)
