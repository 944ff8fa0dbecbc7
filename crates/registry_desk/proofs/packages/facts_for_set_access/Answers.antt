use Rattle.registry_desk.proofs.Words.{refl}
use Rattle.registry_desk.proofs.InsideFacts.{found}
use Rattle.registry_desk.proofs.packages.facts_for_set_access.Goals as goal

pub returns : goal.returns
returns g c = found c.in_ok-standing.ensures (λ d it status sound now. (refl, it sound))
