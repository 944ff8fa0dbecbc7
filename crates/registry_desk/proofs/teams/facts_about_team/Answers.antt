use Rattle.registry_desk.proofs.Words.{refl}
use Rattle.registry_desk.proofs.InsideFacts.{both, found}
use Rattle.registry_desk.proofs.teams.facts_about_team.Goals as goal

pub returns : goal.returns
returns g c = found (both c.in_ok-load_access.ensures c.in_ok-has_team.ensures) (λ d it. (λ now. (refl, it), (λ now. (refl, it), (λ now. (refl, it), λ now. (refl, it)))))
