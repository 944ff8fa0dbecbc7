use Rattle.registry_desk.proofs.Words.{◌∙◌, ap, registry_of}
use Rattle.registry_packument.specs.FormLaws.{in_form}
use Rattle.registry_desk.proofs.InsideFacts.{both, found}
use Rattle.registry_desk.proofs.sending.loaded_head.Goals as goal

pub returns : goal.returns
returns g c = found (both (both c.in_ok-tags.ensures c.in_ok-live.ensures) c.in_ok-times.ensures) (λ d it.
    c.in_form.ensures ∙ ap (in_form c.args.form) (c.in_ok-head.ensures (registry_of d) it.0.0 (it.1 it.0.1)))
