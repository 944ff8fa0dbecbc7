use Rattle.std.proofs.Common.{◌∙◌, ap, subst, sym}
use Rattle.std.specs.Ordering.{is_gt}
use Rattle.registry_names.specs.Versions.{IsVersionOf, text_of_version}
use Rattle.registry_names.proofs.PrecedenceFacts.{text_precedence_agrees}
use Rattle.registry_documents.proofs.tags.is_above.Goals as goal

pub returns-clause-ok : goal.returns-clause-ok
returns-clause-ok c =
    let form : IsVersionOf (text_of_version c.args.other.now) c.args.other.now = subst (λ t. IsVersionOf t c.args.other.now) c.text.ensures.text c.text.ensures.form in
    c.is_gt.ensures ∙ ap is_gt (c.cmp.ensures ∙ sym (text_precedence_agrees c.args.text.now (text_of_version c.args.other.now) _ _ c.in_ok-version_of.ensures.ok form))
