use Rattle.registry_desk.proofs.Words.{refl}
use Rattle.registry_desk.proofs.InsideFacts.{both, found}
use Rattle.registry_desk.proofs.packages.facts_about_package.Goals as goal

pub returns : goal.returns
returns g c = found (both c.in_ok-load_standing.ensures c.in_ok-has_live.ensures) (λ d it sound now. (refl, (it.0 sound, it.1)))
