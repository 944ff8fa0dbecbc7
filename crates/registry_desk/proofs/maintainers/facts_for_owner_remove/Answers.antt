use Rattle.registry_desk.proofs.InsideFacts.{both, found}
use Rattle.registry_desk.proofs.maintainers.facts_for_owner_remove.Goals as goal

pub returns : goal.returns
returns g c = found (both (both c.in_ok-standing.ensures.finds c.in_ok-is_maintainer.ensures) c.in_ok-has_other_maintainer.ensures) (λ d it sound now.
    let allowed = rw c.in-Ok.is at (it.0.0 sound) in
    (allowed.0, record { standing_tells = allowed.1; is_maintainer = it.0.1; other_maintainer = it.1 }))
