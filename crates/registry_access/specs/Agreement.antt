-- What the policy asks of a state: states that agree on it allow the same.
use Rattle.std.specs.Prelude.{◌≡◌, Some}
use Rattle.registry_names.specs.Texts.{Text}
use Rattle.registry_names.specs.Maps.{at}
use Rattle.registry_names.specs.Names.{scope_of}
use Rattle.registry_access.specs.Access.{Access}
use Rattle.registry_access.specs.Callers.{role_of, is_maintainer, team_grant}
use Rattle.registry_access.specs.Positions.{has_organisation}
use Rattle.registry_access.specs.declared.caller.Caller.{Caller}
use Rattle.registry_access.specs.declared.ask.Ask.{Ask}
use Rattle.registry_access.specs.declared.ask.Ask.TheVariants.{Operate, OrgMembers, OrgTeams, Publish, Write, Owners, Read, OrgRead}

-- the organisation is there in both or in neither, and the caller's role in it is the same
pub record SameOrganisation (S T : Access) (caller : Caller) (o : Text) : Type 0 where
  pub organisation : has_organisation S o ≡ has_organisation T o
  pub role : role_of S caller o ≡ role_of T caller o

-- the package's scope and status are the same, and so are whether the caller maintains it and what
-- their teams are granted on it
pub record SamePackage (S T : Access) (caller : Caller) (p : Text) : Type 0 where
  pub scope : (o : Text) → scope_of p ≡ Some o → SameOrganisation S T caller o
  pub status : at S.statuses p ≡ at T.statuses p
  pub maintainer : is_maintainer S caller p ≡ is_maintainer T caller p
  pub grants : (o t : Text) → team_grant S caller o t p ≡ team_grant T caller o t p

-- the states agree on all that the ask concerns
abbrev pub SameFor : Access → Access → Caller → Ask → Type 0
SameFor S T caller Operate = Unit {0}
SameFor S T caller (OrgMembers o) = SameOrganisation S T caller o.now
SameFor S T caller (OrgTeams o) = SameOrganisation S T caller o.now
SameFor S T caller (Publish p) = SamePackage S T caller p.now
SameFor S T caller (Write p) = SamePackage S T caller p.now
SameFor S T caller (Owners p) = SamePackage S T caller p.now
SameFor S T caller (Read p) = SamePackage S T caller p.now
SameFor S T caller (OrgRead o) = SameOrganisation S T caller o.now
