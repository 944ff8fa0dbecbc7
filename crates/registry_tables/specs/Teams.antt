-- What goes with a member and with a team, the members of a team, and what they are granted by
-- that.
use Rattle.std.specs.Prelude.{◌≡◌, Bool, false, not, ◌&&◌, ◌||◌, List, filter, Option, Some, IsSome}
use Rattle.std.specs.List.{list_any}
use Rattle.sqlite_value.specs.Order.{Row, column}
use Rattle.registry_names.specs.Texts.{Text}
use Rattle.registry_names.specs.Names.{scope_of}
use Rattle.registry_names.specs.Keys.{pair_is}
use Rattle.registry_names.specs.Maps.{at, erase, keep, entries, keys, pairs_of, parts}
use Rattle.registry_access.specs.Callers.{granted, grants}
use Rattle.registry_access.specs.Levels.{is_owner_or_admin, reads}
use Rattle.registry_access.specs.Positions.{level_in, scope_role}
use Rattle.registry_access.specs.Standings.{is_listed}
use Rattle.registry_access.specs.declared.caller.Caller.{Caller}
use Rattle.registry_access.specs.declared.grant.Grant.{Grant}
use Rattle.registry_access.specs.declared.role.Role.{Role}
use Rattle.registry_packument.specs.declared.list.Granted.{Granted}
use Rattle.registry_rows.specs.Columns.{text_in, int_in}
use Rattle.registry_tables.specs.Contents.{Contents, access_of}
use Rattle.registry_tables.specs.Numbers.{grant_of}

-- ---- what goes

-- the user isn't a member, and is in no team of the organisation
abbrev pub without_member : Text → Text → Contents → Contents
without_member o u c = record c {
  members = erase c.members (o, u);
  team_members = keep c.team_members (λ k. not (pair_is (o, u) (k.0, k.1.1)));
}

-- the team is gone, nobody is in it, and nothing is granted to it
abbrev pub without_team : Text → Text → Contents → Contents
without_team o t c = record c {
  teams = erase c.teams (o, t);
  team_members = keep c.team_members (λ k. not (pair_is (o, t) (k.0, k.1.0)));
  grants = keep c.grants (λ k. not (pair_is (o, t) (k.0, k.1.0)));
}

-- ---- the members of a team

-- the users in a team of an organisation, in byte order
abbrev pub users_of : Contents → Text → Text → List Text
users_of c o t = keys (parts (pairs_of c.team_members o) t)

-- ---- what is granted

-- whether a team of the organisation that the user is in has this grant on the package
abbrev pub granted_in : Contents → Text → Text → Text → Grant → Bool
granted_in c o u p g = list_any (λ k. pair_is (o, u) (k.0, k.1.1) && grants (at (access_of c).grants (k.0, (k.1.0, p))) g) (keys (entries c.team_members))

-- the list has exactly what is granted so. Neither the order nor how often a grant occurs
-- there counts
abbrev pub AreGranted : Contents → Text → Text → Text → List Grant → Type 0
AreGranted c o u p gs = (g : Grant) → is_listed gs g ≡ granted_in c o u p g

-- each grant is on a package of its organisation's scope
abbrev pub GrantsInScope : Contents → Type 0
GrantsInScope c = (o t p : Text) → IsSome (at c.grants (o, (t, p))) → scope_of p ≡ Some o

-- a user who is in a team is a member of its organisation
abbrev pub TeamsAreOfMembers : Contents → Type 0
TeamsAreOfMembers c = (o t u : Text) → IsSome (at c.team_members (o, (t, u))) → IsSome (at c.members (o, u))

-- A team has members of its organisation, and grants on packages of its scope
pub record AreTeamsSound (c : Contents) : Type 0 where
  pub members : TeamsAreOfMembers c
  pub grants : GrantsInScope c

-- the list has what the caller is granted on the package, where the role that it is given is right
-- in the organisation of its scope. Of an owner or admin, and of a maintainer, nothing is said
abbrev pub AreGrantedTo : Contents → Caller → Text → Option Role → Bool → List Grant → Type 0
AreGrantedTo c who p role maintainer gs = AreTeamsSound c → role ≡ scope_role (access_of c) who (scope_of p)
    → (is_owner_or_admin role || maintainer) ≡ false → (g : Grant) → is_listed gs g ≡ granted (access_of c) who p g

-- what a team is granted, in byte order of the packages
abbrev pub grants_of : Contents → Text → Text → List (Text × Grant)
grants_of c o t = parts (pairs_of (access_of c).grants o) t

-- those of some grants that are on packages that the caller reads
abbrev pub readable : Contents → Caller → List (Text × Grant) → List (Text × Grant)
readable c who = filter (λ (e : Text × Grant). reads (level_in (access_of c) who e.0))

-- what a team is granted on packages that the caller reads
abbrev pub grants_read : Contents → Caller → Text → Text → List (Text × Grant)
grants_read c who o t = readable c who (grants_of c o t)

-- ---- what rows of answers spell

-- a text alone
abbrev pub text_spelled : Row → Text
text_spelled r = text_in (column r 0)

-- a package, and what is granted on it
abbrev pub granted_spelled : Row → Text × Grant
granted_spelled r = (text_in (column r 0), grant_of (int_in (column r 1)))

abbrev pub granted_entry : Granted → Text × Grant
granted_entry g = (g.name, g.grant)

-- a grant alone
abbrev pub grant_spelled : Row → Grant
grant_spelled r = grant_of (int_in (column r 0))
