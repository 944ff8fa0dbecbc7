-- Rows, and standings, that agree with a state.
use Rattle.std.specs.Prelude.{◌≡◌, ◌||◌, Bool, true, false, Option, Some, None}
use Rattle.registry_names.specs.Texts.{Text}
use Rattle.registry_names.specs.Maps.{at}
use Rattle.registry_names.specs.Names.{scope_of}
use Rattle.registry_names.specs.declared.status.Status.{Status}
use Rattle.registry_names.specs.declared.status.Status.TheVariants.{Public}
use Rattle.registry_access.specs.Access.{Access}
use Rattle.registry_access.specs.Agreement.{SamePackage, SameFor}
use Rattle.registry_access.specs.Callers.{is_maintainer, granted}
use Rattle.registry_access.specs.Levels.{is_owner_or_admin}
use Rattle.registry_access.specs.Positions.{has_scope, scope_role}
use Rattle.registry_access.specs.RowMaps.{state_of}
use Rattle.registry_access.specs.Standings.{is_listed}
use Rattle.registry_access.specs.declared.grant.Grant.{Grant}
use Rattle.registry_access.specs.declared.caller.Caller.{Caller}
use Rattle.registry_access.specs.declared.ask.Ask.{Ask}
use Rattle.registry_access.specs.declared.ask.Ask.TheVariants.{Operate, OrgMembers, OrgTeams, Publish, Write, Owners, Read, OrgRead}
use Rattle.registry_access.specs.declared.rows.AccessRows.{AccessRows}
use Rattle.registry_access.specs.declared.standing.Standing.{Standing}

-- Rows agree with a state, at what a caller asks, where they say the same of it. For an ask about
-- an organisation these rows are enough: the organisation's, and the caller's membership in it. For
-- one about a package: those of the organisation of its scope, the package's, the caller's among
-- its maintainers, and of each team that the caller is in and that is granted something on the
-- package, the caller's row in the team and the grant. More rows of the state do no harm.
abbrev pub RowsTell : AccessRows → Access → Caller → Ask → Type 0
RowsTell rows S caller ask = SameFor (state_of rows) S caller ask

-- the same for the level on a package
abbrev pub RowsTellOfPackage : AccessRows → Access → Caller → Text → Type 0
RowsTellOfPackage rows S caller p = SamePackage (state_of rows) S caller p

-- A standing agrees with a state at a caller and a package. Whether they are a maintainer means
-- nothing for an owner or admin, whose role alone lets them write. Its list of grants means nothing
-- for these and for a maintainer. In `grants` neither the order nor how often a grant occurs counts.
pub record StandingTells (standing : Standing) (S : Access) (caller : Caller) (p : Text) : Type 0 where
  pub organisation : standing.organisation ≡ has_scope S (scope_of p)
  pub role : standing.role ≡ scope_role S caller (scope_of p)
  pub status : standing.status ≡ at S.statuses p
  pub maintainer : is_owner_or_admin standing.role ≡ false → standing.maintainer ≡ is_maintainer S caller p
  pub grants : (is_owner_or_admin standing.role || standing.maintainer) ≡ false
      → (g : Grant) → is_listed standing.grants.items g ≡ granted S caller p g

-- everybody reads a package of this status
abbrev pub is_public : Option Status → Bool
is_public (Some Public) = true
is_public _ = false

-- A standing tells whether a caller reads a package. Of a public one its status alone counts
pub record TellsReader (standing : Standing) (S : Access) (caller : Caller) (p : Text) : Type 0 where
  pub status : standing.status ≡ at S.statuses p
  pub restricted : is_public standing.status ≡ false → StandingTells standing S caller p

-- A standing tells whether a caller manages the maintainers of a package: whether they are one counts
-- whatever their role
pub record TellsMaintainer (standing : Standing) (S : Access) (caller : Caller) (p : Text) : Type 0 where
  pub standing_tells : StandingTells standing S caller p
  pub maintainer : standing.maintainer ≡ is_maintainer S caller p

-- the ask is to see a package
abbrev pub is_read : Ask → Bool
is_read (Read q) = true
is_read _ = false

-- the ask is to manage maintainers
abbrev pub is_owners : Ask → Bool
is_owners (Owners q) = true
is_owners _ = false

-- what an ask rests on, if it is about this package
abbrev pub TellsFor : Ask → Standing → Access → Caller → Text → Type 0
TellsFor Operate standing S caller p = StandingTells standing S caller p
TellsFor (OrgMembers o) standing S caller p = StandingTells standing S caller p
TellsFor (OrgTeams o) standing S caller p = StandingTells standing S caller p
TellsFor (Publish q) standing S caller p = StandingTells standing S caller p
TellsFor (Write q) standing S caller p = StandingTells standing S caller p
TellsFor (Owners q) standing S caller p = TellsMaintainer standing S caller p
TellsFor (Read q) standing S caller p = TellsReader standing S caller p
TellsFor (OrgRead o) standing S caller p = StandingTells standing S caller p

-- the package that is asked about
abbrev pub asked_package : Ask → Option Text
asked_package Operate = None
asked_package (OrgMembers o) = None
asked_package (OrgTeams o) = None
asked_package (Publish p) = Some p.now
asked_package (Write p) = Some p.now
asked_package (Owners p) = Some p.now
asked_package (Read p) = Some p.now
asked_package (OrgRead o) = None

-- rows that say all that the state says of its organisations and packages
pub record RowsTellAll (rows : AccessRows) (S : Access) : Type 0 where
  pub organisations : (state_of rows).organisations ≡ S.organisations
  pub roles : (state_of rows).roles ≡ S.roles
  pub teams : (state_of rows).teams ≡ S.teams
  pub team_members : (state_of rows).team_members ≡ S.team_members
  pub grants : (state_of rows).grants ≡ S.grants
  pub statuses : (state_of rows).statuses ≡ S.statuses
  pub maintainers : (state_of rows).maintainers ≡ S.maintainers
