use Rattle.std.proofs.Common.{◌∙◌, ◌++◌, ◌∷◌, [], ap, map, take}
use Rattle.registry_rules.specs.Changes.{DropTag, RetireVersion, change_of}
use Rattle.registry_rules.specs.Effects as effects
use Rattle.registry_rules.specs.Facts.{since_of}
use Rattle.registry_rules.proofs.ListedFacts.{listed_more, pushed}
use Rattle.registry_rules.proofs.withdrawals.withdrawal_of_all.Goals as goal

pub loop-row-preserved : goal.loop-row-preserved
loop-row-preserved c =
    let p = c.args.name.now in
    let now = c.args.now.now in
    let rows = c.args.live.now in
    let i = c.loop-row.row-index in
    pushed change_of _ _ _ _ c.in_ok-push.ensures.items c.loop-row.invariant
    ∙ ap (λ x. effects.withdrawal_of_all now p (map since_of (take i rows)) c.args.tags.now ++ RetireVersion p (since_of x).0 (since_of x).1 now ∷ []) c.row-item.is
    ∙ listed_more (map (DropTag p) c.args.tags.now) since_of (λ e. RetireVersion p e.0 e.1 now) rows i c.row-item.result c.loop-row-test.true
