use Rattle.registry_desk.proofs.Words.{◌∙◌, ap, is_some, refl}
use Rattle.registry_desk.proofs.InsideFacts.{both, found}
use Rattle.registry_desk.proofs.teams.facts_about_team_member.Goals as goal

pub returns : goal.returns
returns g c = found (both (both (both c.in_ok-load_access.ensures c.in_ok-has_team.ensures) c.in_ok-load_role.ensures) c.in_ok-is_in_team.ensures) (λ d it.
    let member = c.is_some.ensures ∙ ap is_some it.0.1 in (
      λ now. (refl, record { rows_say = it.0.0.0; team_exists = it.0.0.1; is_member = member; is_in_team = it.1 }),
      λ now. (refl, record { rows_say = it.0.0.0; team_exists = it.0.0.1; is_member = member; is_in_team = it.1 }),
    ))
