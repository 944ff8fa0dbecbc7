use Rattle.registry_desk.proofs.InsideFacts.{both, found}
use Rattle.registry_desk.proofs.organisations.facts_about_member.Goals as goal

pub returns : goal.returns
returns g c = found (both (both (both c.in_ok-rows.ensures c.in_ok-has_user.ensures) c.in_ok-load_role.ensures) c.in_ok-has_other_owner.ensures) (λ d it.
    let allowed = rw c.in-Ok.is at it.0.0.0 in (
      λ role now. (allowed.0, record { rows_say = allowed.1; user_exists = it.0.0.1; role = it.0.1; other_owner = it.1 }),
      λ now. (allowed.0, record { rows_say = allowed.1; user_exists = it.0.0.1; role = it.0.1; other_owner = it.1 }),
    ))
