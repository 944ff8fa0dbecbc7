use Rattle.registry_tables.proofs.Words.{◌∙◌, ◌∷◌, ◌++◌, [], List, ap, sym, text_of_version, VersionParts}
use Rattle.registry_tables.proofs.Words.{IsVersionOf, Result, IfOk, subst}
use Rattle.registry_names.specs.declared.stop.Stop.{Stop}
use Rattle.registry_names.specs.declared.version.Ver.{Ver}
use Rattle.registry_rules.specs.declared.facts.LiveVersion.{LiveVersion as Listed}
use Rattle.registry_tables.proofs.DependentFacts.{one_more_read}
use Rattle.registry_tables.proofs.dependents.versions_of.Goals as goal

pub loop-row-preserved : goal.loop-row-preserved
loop-row-preserved c =
    let at = c.loop-row in
    c.in_ok-push.ensures.items ∙ ap (λ (vs : List VersionParts). vs ++ c.in_ok-version.version ∷ []) at.invariant
    ∙ sym (one_more_read c.args.live.now at.row-index c.row-item.result c.text.result.now c.in_ok-version.version c.loop-row-test.true (c.text.ensures.text ∙ ap (λ (r : Listed). text_of_version r.version) c.row-item.is) (subst (λ (r : Result Ver Stop). IfOk r (λ v. IsVersionOf c.text.result.now v)) c.in_ok-version.ensures c.parse.ensures.ok))
