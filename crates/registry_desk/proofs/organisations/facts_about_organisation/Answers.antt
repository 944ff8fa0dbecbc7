use Rattle.registry_desk.proofs.Words.{refl}
use Rattle.registry_desk.proofs.InsideFacts.{found}
use Rattle.registry_desk.proofs.organisations.facts_about_organisation.Goals as goal

pub returns : goal.returns
returns g c = found c.in_ok-rows.ensures (λ d say. (λ now. (refl, say), (λ now. (refl, say), λ now. (refl, say))))
