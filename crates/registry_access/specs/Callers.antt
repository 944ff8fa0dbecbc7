-- What a caller is in organisations, teams and packages. The operator and the anonymous caller are
-- in none.
use Rattle.std.specs.Prelude.{Bool, true, false, ◌&&◌, is_some, Option, Some, None, if◌then◌else◌}
use Rattle.std.specs.List.{list_any}
use Rattle.registry_names.specs.Texts.{Text, is}
use Rattle.registry_names.specs.Maps.{at, entries, keys}
use Rattle.registry_access.specs.Access.{Access}
use Rattle.registry_access.specs.Levels.{is_grant}
use Rattle.registry_access.specs.declared.role.Role.{Role}
use Rattle.registry_access.specs.declared.grant.Grant.{Grant}
use Rattle.registry_access.specs.declared.caller.Caller.{Caller}
use Rattle.registry_access.specs.declared.caller.Caller.TheVariants.{Operator, User, Anonymous}

abbrev pub is_operator : Caller → Bool
is_operator Operator = true
is_operator (User u) = false
is_operator Anonymous = false

abbrev pub is_user : Caller → Bool
is_user Operator = false
is_user (User u) = true
is_user Anonymous = false

abbrev pub is_anonymous : Caller → Bool
is_anonymous Operator = false
is_anonymous (User u) = false
is_anonymous Anonymous = true

-- their role in an organisation, if they are a member
abbrev pub role_of : Access → Caller → Text → Option Role
role_of S Operator o = None
role_of S (User u) o = at S.roles (o, u)
role_of S Anonymous o = None

-- whether they are a maintainer of a package
abbrev pub is_maintainer : Access → Caller → Text → Bool
is_maintainer S Operator p = false
is_maintainer S (User u) p = is_some (at S.maintainers (p, u))
is_maintainer S Anonymous p = false

-- whether they are in a team of an organisation
abbrev pub in_team : Access → Caller → Text → Text → Bool
in_team S Operator o t = false
in_team S (User u) o t = is_some (at S.team_members (o, (t, u)))
in_team S Anonymous o t = false

-- what a team grants them on a package, if they are in it
abbrev pub team_grant : Access → Caller → Text → Text → Text → Option Grant
team_grant S caller o t p = if in_team S caller o t then at S.grants (o, (t, p)) else None

-- whether this is what was granted, if anything was
abbrev pub grants : Option Grant → Grant → Bool
grants None g = false
grants (Some h) g = is_grant h g

-- whether a team that the user is in has this grant on the package
abbrev pub team_granted : Access → Text → Text → Grant → Bool
team_granted S u p g = list_any (λ k. is k.1.1 u && grants (at S.grants (k.0, (k.1.0, p))) g) (keys (entries S.team_members))

-- whether a team of theirs has this grant on the package
abbrev pub granted : Access → Caller → Text → Grant → Bool
granted S Operator p g = false
granted S (User u) p g = team_granted S u p g
granted S Anonymous p g = false
