use Rattle.std.proofs.Common.{◌∙◌, ◌++◌, ◌∷◌, [], ap, sym, map, take}
use Rattle.registry_names.specs.Versions.{text_of_version}
use Rattle.registry_rules.specs.Effects as effects
use Rattle.registry_rules.specs.Withdrawals.{selected}
use Rattle.registry_rules.proofs.ListedFacts.{mapped_more, messages_more}
use Rattle.registry_rules.proofs.withdrawals.deprecation.Goals as goal

pub loop-version-preserved : goal.loop-version-preserved
loop-version-preserved c =
    let p = c.args.name.now in
    let m = c.args.message.now in
    let s = c.args.selector.now in
    let xs = map text_of_version (take c.loop-version.version-index c.args.live.now) in
    c.in_ok-push_message.ensures
    ∙ ap (λ l. l ++ effects.deprecation p m (selected (text_of_version c.version-item.result ∷ []) s)) c.loop-version.invariant
    ∙ ap (λ x. effects.deprecation p m (selected xs s) ++ effects.deprecation p m (selected (text_of_version x ∷ []) s)) c.version-item.is
    ∙ sym (messages_more p m s xs _)
    ∙ ap (λ l. effects.deprecation p m (selected l s)) (sym (mapped_more text_of_version c.args.live.now c.loop-version.version-index c.version-item.result c.loop-version-test.true))
