use Rattle.std.proofs.Common.{◌∙◌, [], ap, sym, refl, map, take}
use Rattle.registry_names.specs.Greatest.{greatest}
use Rattle.registry_names.specs.Versions.{text_of_version}
use Rattle.registry_names.proofs.GreatestFacts.{none_greatest}
use Rattle.registry_rules.specs.Withdrawals.{better, others}
use Rattle.registry_rules.proofs.ListedFacts.{greatest_more, mapped_more}
use Rattle.registry_rules.proofs.withdrawals.greatest_other.Goals as goal

pub loop-other-init : goal.loop-other-init
loop-other-init c = sym (none_greatest [] refl)

pub loop-other-preserved : goal.loop-other-preserved
loop-other-preserved c =
    let v = text_of_version c.args.version.now in
    let xs = map text_of_version (take c.loop-other.other-index c.args.live.now) in
    c.better-best.ensures ∙ ap (λ o. better o (text_of_version c.other-item.result) v) c.loop-other.invariant
    ∙ ap (λ x. better (greatest (others xs v)) (text_of_version x) v) c.other-item.is
    ∙ sym (greatest_more xs _ v)
    ∙ ap (λ l. greatest (others l v)) (sym (mapped_more text_of_version c.args.live.now c.loop-other.other-index c.other-item.result c.loop-other-test.true))
