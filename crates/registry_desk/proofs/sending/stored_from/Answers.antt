use Rattle.registry_desk.proofs.Words.{◌∙◌, ap, sym, registry_of, head_in}
use Rattle.registry_packument.specs.declared.form.PackForm.{PackForm}
use Rattle.registry_desk.proofs.InsideFacts.{both, found, found_known}
use Rattle.registry_desk.proofs.sending.stored_from.Goals as goal

pub returns : goal.returns
returns g c = found (found_known (both c.in_ok-has_live.ensures c.in_ok-head.ensures) c.in_ok-front.ensures) (λ d it. (
  sym it.0.0 ∙ c.if-not-branch.false,
  (it.0.1 ∙ ap (λ (form : PackForm). head_in form (registry_of d) c.args.name.now) c.form.ensures, it.1),
))
