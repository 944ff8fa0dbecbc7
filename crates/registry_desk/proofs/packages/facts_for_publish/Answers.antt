use Rattle.registry_desk.proofs.Words.{◌≡◌, is_some, subst, None, Text, scope_of, position_in, StandingTells, unless_allowed, access_of}
use Rattle.registry_access.specs.Policy.{may_publish}
use Rattle.registry_desk.proofs.InsideFacts.{both, found}
use Rattle.registry_desk.proofs.packages.facts_for_publish.Goals as goal

pub returns : goal.returns
returns g c = found (both c.in_ok-standing.ensures.finds c.in_ok-taken.ensures) (λ d it sound now.
    let allowed = subst (λ (q : Text). (unless_allowed (may_publish c.args.caller.now (is_some (scope_of q)) (position_in (access_of d) c.args.caller.now q)) ≡ None) × StandingTells c.in-Ok.standing (access_of d) c.args.caller.now q)
    c.name-name.ensures.value (rw c.in-Ok.is at (it.0 sound)) in (
      allowed.0,
      record {
        standing = allowed.1;
        version_lives = it.1.version_lives;
        version_spent = it.1.version_spent;
        latest_stands = it.1.latest_stands;
        gone_since = it.1.gone_since;
      },
    ))
