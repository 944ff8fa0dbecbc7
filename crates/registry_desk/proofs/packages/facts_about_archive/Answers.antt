use Rattle.registry_desk.proofs.Words.{◌∙◌, ap, refl, is_live, registry_of}
use Rattle.registry_desk.proofs.InsideFacts.{both, found}
use Rattle.registry_desk.proofs.packages.facts_about_archive.Goals as goal

pub returns : goal.returns
returns g c = found (both c.in_ok-load_standing.ensures c.in_ok-has_version.ensures) (λ d it sound now. (refl, (it.0 sound, it.1 ∙ ap (is_live (registry_of d) c.args.name.now) c.text.ensures.text)))
