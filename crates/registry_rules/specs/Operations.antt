-- The operations on what the registry holds. Each change is one of them.
use Rattle.std.specs.Prelude.{ℕ, not, ◌&&◌, if◌then◌else◌}
use Rattle.registry_names.specs.Keys.{pair_is}
use Rattle.registry_names.specs.Texts.{Text, is}
use Rattle.registry_names.specs.Maps.{put, erase, keep, revise}
use Rattle.registry_names.specs.declared.status.Status.{Status}
use Rattle.registry_access.specs.declared.grant.Grant.{Grant}
use Rattle.registry_access.specs.declared.role.Role.{Role}
use Rattle.registry_rules.specs.State.{State, Release}

-- the user is there
abbrev pub with_user : State → Text → State
with_user S u = record S { access = record S.access { users = put S.access.users u tt } }

-- the token is this user's
abbrev pub with_token : State → Text → Text → State
with_token S digest u = record S { access = record S.access { tokens = put S.access.tokens digest u } }

-- the token is nobody's
abbrev pub without_token : State → Text → State
without_token S digest = record S { access = record S.access { tokens = erase S.access.tokens digest } }

-- the organisation is there
abbrev pub with_organisation : State → Text → State
with_organisation S o = record S { access = record S.access { organisations = put S.access.organisations o tt } }

-- the user is a member of the organisation, and has this role in it
abbrev pub with_role : State → Text → Text → Role → State
with_role S o u role = record S { access = record S.access { roles = put S.access.roles (o, u) role } }

-- the user isn't a member, and is in no team of the organisation
abbrev pub without_member : State → Text → Text → State
without_member S o u = record S {
  access = record S.access {
    roles = erase S.access.roles (o, u);
    team_members = keep S.access.team_members (λ k. not (is o k.0 && is u k.1.1));
  };
}

-- the organisation has the team
abbrev pub with_team : State → Text → Text → State
with_team S o t = record S { access = record S.access { teams = put S.access.teams (o, t) tt } }

-- the user is in the team
abbrev pub with_team_member : State → Text → Text → Text → State
with_team_member S o t u = record S { access = record S.access { team_members = put S.access.team_members (o, (t, u)) tt } }

-- the user isn't in the team
abbrev pub without_team_member : State → Text → Text → Text → State
without_team_member S o t u = record S { access = record S.access { team_members = erase S.access.team_members (o, (t, u)) } }

-- the team isn't there; nobody is in it, and it is granted nothing
abbrev pub without_team : State → Text → Text → State
without_team S o t = record S {
  access = record S.access {
    teams = erase S.access.teams (o, t);
    team_members = keep S.access.team_members (λ k. not (is o k.0 && is t k.1.0));
    grants = keep S.access.grants (λ k. not (is o k.0 && is t k.1.0));
  };
}

-- the team is granted this on the package, and nothing else on it
abbrev pub with_grant : State → Text → Text → Text → Grant → State
with_grant S o t p grant = record S { access = record S.access { grants = put S.access.grants (o, (t, p)) grant } }

-- the team is granted nothing on the package
abbrev pub without_grant : State → Text → Text → Text → State
without_grant S o t p = record S { access = record S.access { grants = erase S.access.grants (o, (t, p)) } }

-- the user is a maintainer of the package
abbrev pub with_maintainer : State → Text → Text → State
with_maintainer S p u = record S { access = record S.access { maintainers = put S.access.maintainers (p, u) tt } }

-- the user isn't a maintainer of the package
abbrev pub without_maintainer : State → Text → Text → State
without_maintainer S p u = record S { access = record S.access { maintainers = erase S.access.maintainers (p, u) } }

-- the package has this status
abbrev pub with_status : State → Text → Status → State
with_status S p status = record S { access = record S.access { statuses = put S.access.statuses p status } }

-- the version lives
abbrev pub with_version : State → Text → Text → Release → State
with_version S p v release = record S { live = put S.live (p, v) release }

-- the version was published and withdrawn at these moments, and lives no more
abbrev pub retired : State → Text → Text → ℕ → ℕ → State
retired S p v published withdrawn = record S {
  live = erase S.live (p, v);
  spent = put S.spent (p, v) (record { published = published; withdrawn = withdrawn });
}

-- a version that lives has this message
abbrev pub with_message : State → Text → Text → Text → State
with_message S p v message = record S { live = revise S.live (λ k (r : Release). if pair_is (p, v) k then record r { message = message } else r) }

-- the tag names the version
abbrev pub with_tag : State → Text → Text → Text → State
with_tag S p t v = record S { tags = put S.tags (p, t) v }

-- the tag is gone
abbrev pub without_tag : State → Text → Text → State
without_tag S p t = record S { tags = erase S.tags (p, t) }
