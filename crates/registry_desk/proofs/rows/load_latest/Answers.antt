use Rattle.registry_desk.proofs.Words.{◌∙◌, ap, sym, Option, option_map, at, Text, live_of, document}
use Rattle.std.specs.Prelude.{option_and_then}
use Rattle.registry_desk.proofs.InsideFacts.{both, found}
use Rattle.registry_desk.proofs.rows.load_latest.Goals as goal

pub returns-in_ok-document-in-Some : goal.returns-in_ok-document-in-Some
returns-in_ok-document-in-Some g c = found (both c.in_ok-version.ensures c.in_ok-document-in-Some.ensures) (λ d it.
    it.1 ∙ ap (λ (v : Text). option_map document (at (live_of d) (c.args.name.now, v))) c.as_str.ensures.text
    ∙ ap (λ (o : Option Text). option_map document (option_and_then (λ v. at (live_of d) (c.args.name.now, v)) o)) (sym c.in-Some.is ∙ it.0))
