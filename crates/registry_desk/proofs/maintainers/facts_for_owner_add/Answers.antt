use Rattle.registry_desk.proofs.Words.{refl}
use Rattle.registry_desk.proofs.InsideFacts.{both, found}
use Rattle.registry_desk.proofs.maintainers.facts_for_owner_add.Goals as goal

pub returns : goal.returns
returns g c = found (both (both c.in_ok-load_standing.ensures c.in_ok-has_user.ensures) c.in_ok-is_maintainer.ensures)
    (λ d it sound now. (refl, record { standing_tells = it.0.0 sound; user_exists = it.0.1; is_maintainer = it.1 }))
