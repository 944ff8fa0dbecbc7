use Rattle.std.proofs.Common.{◌∙◌, ◌&&◌, ap, sym}
use Rattle.serde_json.specs.View.{view}
use Rattle.serde_json.specs.Written.{compact_text}
use Rattle.registry_names.specs.Texts.{is}
use Rattle.registry_publish.proofs.BodyFacts.{no_float}
use Rattle.registry_check.proofs.manifest.is_written.Goals as goal

pub returns : goal.returns
returns c =
    let yes = sym c.is_manifest.ensures ∙ c.if-not-is_manifest.false in
    let text = c.in_ok-written.ensures.text (no_float c.args.name.now c.args.version.now (view c.args.value.now) yes) in
    c.is_same.ensures ∙ ap (is c.args.text.now) (c.as_str.ensures.value ∙ text) ∙ sym (ap (λ b. b && is c.args.text.now (compact_text (view c.args.value.now))) yes)
