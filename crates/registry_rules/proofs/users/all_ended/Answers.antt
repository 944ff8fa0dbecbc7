use Rattle.std.proofs.Common.{◌∙◌, ap, map}
use Rattle.registry_rules.specs.Changes.{change_of, DropToken}
use Rattle.registry_rules.proofs.ListedFacts.{changes_more}
use Rattle.registry_rules.proofs.users.all_ended.Goals as goal

pub loop-digest-preserved : goal.loop-digest-preserved
loop-digest-preserved c =
    ap (map change_of) c.in_ok-push.ensures.items
    ∙ changes_more change_of DropToken c.loop-digest.changes.items _ c.args.digests.now c.loop-digest.digest-index c.digest-item.result c.loop-digest-test.true c.loop-digest.invariant (ap DropToken c.digest-item.is)
