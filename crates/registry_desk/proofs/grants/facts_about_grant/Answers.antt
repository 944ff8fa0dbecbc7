use Rattle.registry_desk.proofs.Words.{◌∙◌, ap, is_some, refl}
use Rattle.registry_desk.proofs.InsideFacts.{both, found}
use Rattle.registry_desk.proofs.grants.facts_about_grant.Goals as goal

pub returns : goal.returns
returns g c = found (both (both (both c.in_ok-load_access.ensures c.in_ok-has_team.ensures) c.in_ok-load_status.ensures) c.in_ok-has_grant.ensures) (λ d it.
    let published = c.is_some.ensures ∙ ap is_some it.0.1 in (
      λ grant now. (refl, record { rows_say = it.0.0.0; team_exists = it.0.0.1; is_published = published; stands = it.1 }),
      λ now. (refl, record { rows_say = it.0.0.0; team_exists = it.0.0.1; is_published = published; stands = it.1 }),
    ))
