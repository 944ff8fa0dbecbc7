-- What is refused before all that decides it is loaded. What is costly to load is the needs of all
-- packages, and lists: the versions of a package, those that were withdrawn, its maintainers, the
-- members of an organisation, the tokens of a user
use Rattle.std.specs.Prelude.{◌≡◌, ℕ, Option, Some, None, Result, Ok, Err}
use Rattle.std.specs.Option.{option_or}
use Rattle.registry_names.specs.Texts.{Text}
use Rattle.registry_names.specs.Versions.{text_of_version}
use Rattle.registry_names.specs.declared.refusal.Refusal.{Refusal}
use Rattle.registry_access.specs.Access.{Access}
use Rattle.registry_access.specs.Agreement.{SameOrganisation}
use Rattle.registry_access.specs.Policy.{allowed_at, allowed_in, may_write}
use Rattle.registry_access.specs.RowMaps.{state_of}
use Rattle.registry_access.specs.RowsFor.{TellsFor}
use Rattle.registry_access.specs.Standings.{position_of}
use Rattle.registry_access.specs.declared.ask.Ask.{Ask}
use Rattle.registry_access.specs.declared.ask.Ask.TheVariants.{Operate, OrgMembers, OrgTeams, Publish as ToPublish, Write, Owners, Read, OrgRead}
use Rattle.registry_access.specs.declared.caller.Caller.{Caller}
use Rattle.registry_access.specs.declared.grant.Grant.{Grant}
use Rattle.registry_access.specs.declared.role.Role.{Role}
use Rattle.registry_access.specs.declared.rows.AccessRows.{AccessRows}
use Rattle.registry_access.specs.declared.standing.Standing.{Standing}
use Rattle.registry_rules.specs.Facts.{AboutTells}
use Rattle.registry_rules.specs.Permissions.{permission}
use Rattle.registry_rules.specs.Refusals.{refusal_by, unless_allowed, withdraw_all_refusal, withdraw_refusal}
use Rattle.registry_rules.specs.State.{State}
use Rattle.registry_rules.specs.Withdrawals.{is_any_depended, is_depended, live_since, published_at}
use Rattle.registry_rules.specs.declared.request.Action.{Action}
use Rattle.registry_rules.specs.declared.request.Action.TheVariants.{TokensRemove, OrgSet, OrgRemove, TeamCreate, TeamDestroy, TeamAdd, TeamRemove, Grant as ToGrant, Revoke, OwnerRemove, Publish, Withdraw, WithdrawAll, Deprecate, Members, Teams, TeamMembers, TeamPackages, OrgPackages, WhoAmI, MyPackages, Users, Organisations, Packages}
use Rattle.registry_tables.specs.Contents.{Contents, registry_of}
use Rattle.registry_tables.specs.Needs.{HoldsNeeds}
use Rattle.registry_desk.specs.declared.policy.Found.{Found}
use Rattle.registry_desk.specs.declared.policy.Found.TheVariants as found

-- why the policy refuses an action, if it does
abbrev pub denial : Access → Caller → Action → Option Refusal
denial A who what = unless_allowed (permission A who what)

-- Why an action is refused before what is costly to load is loaded. The policy is asked first of
-- each that needs something costly; of a withdrawal, of one version or of all, then all that refuses
-- it
abbrev pub early_refusal : State → ℕ → Caller → Action → Option Refusal
early_refusal S now who (TokensRemove u) = denial S.access who (TokensRemove u)
early_refusal S now who (OrgSet o u role) = denial S.access who (OrgSet o u role)
early_refusal S now who (OrgRemove o u) = denial S.access who (OrgRemove o u)
early_refusal S now who (OwnerRemove p u) = denial S.access who (OwnerRemove p u)
early_refusal S now who (Publish f) = denial S.access who (Publish f)
early_refusal S now who (Withdraw p v) =
    option_or (denial S.access who (Withdraw p v)) (withdraw_refusal now (published_at S p (text_of_version v)) (is_depended S p v))
early_refusal S now who (WithdrawAll p) =
    option_or (denial S.access who (WithdrawAll p)) (withdraw_all_refusal now (live_since S p) (is_any_depended S p))
early_refusal S now who (Deprecate p selector message) = denial S.access who (Deprecate p selector message)
early_refusal S now who _ = None

-- What was found of an action: why it is refused early, or, where it isn't, what decides it
abbrev pub FoundTells : Found → State → ℕ → Caller → Action → Type 0
FoundTells (found.Refused why) S now who what = early_refusal S now who what ≡ Some why
FoundTells (found.About about) S now who what = (early_refusal S now who what ≡ None) × AboutTells about S who what

-- so it is whenever the action is asked
abbrev pub Decides : Found → Contents → Caller → Action → Type 0
Decides found c who what = (now : ℕ) → FoundTells found (registry_of c) now who what

-- what was found of an action that isn't refused early decides it in some state in which everybody
-- has the same rights
abbrev pub TellsSome : Found → State → Caller → Action → Type 0
TellsSome (found.Refused why) S who what = Unit {0}
TellsSome (found.About about) S who what = (T : State) × (T.access ≡ S.access) × AboutTells about T who what

-- What was found of a withdrawal decides it where the stored needs are those of live versions.
-- Where they aren't, it decides the action in some other state
pub record IsFoundByNeeds (found : Found) (c : Contents) (now : ℕ) (who : Caller) (what : Action) : Type 0 where
  pub tells : HoldsNeeds c → FoundTells found (registry_of c) now who what
  pub some : TellsSome found (registry_of c) who what

-- what was found of an action decides it, by what is stored
abbrev pub IsFound : Found → Contents → ℕ → Caller → Action → Type 0
IsFound found c now who (Withdraw p v) = IsFoundByNeeds found c now who (Withdraw p v)
IsFound found c now who (WithdrawAll p) = IsFoundByNeeds found c now who (WithdrawAll p)
IsFound found c now who what = FoundTells found (registry_of c) now who what

-- ---- what was found decides each action about one subject

-- of the caller alone
abbrev pub DecidesOfCaller : Found → Contents → Caller → Type 0
DecidesOfCaller found c who = Decides found c who WhoAmI × (Decides found c who MyPackages × (Decides found c who Users × (Decides found c who Organisations × Decides found c who Packages)))

abbrev pub DecidesOfMember : Found → Contents → Caller → Text → Text → Type 0
DecidesOfMember found c who o u = ((role : Role) → Decides found c who (OrgSet o u role)) × Decides found c who (OrgRemove o u)

abbrev pub DecidesOfOrganisation : Found → Contents → Caller → Text → Type 0
DecidesOfOrganisation found c who o = Decides found c who (Members o) × (Decides found c who (Teams o) × Decides found c who (OrgPackages o))

abbrev pub DecidesOfTeam : Found → Contents → Caller → Text → Text → Type 0
DecidesOfTeam found c who o t =
    Decides found c who (TeamCreate o t) × (Decides found c who (TeamDestroy o t) × (Decides found c who (TeamMembers o t) × Decides found c who (TeamPackages o t)))

abbrev pub DecidesOfTeamMember : Found → Contents → Caller → Text → Text → Text → Type 0
DecidesOfTeamMember found c who o t u = Decides found c who (TeamAdd o t u) × Decides found c who (TeamRemove o t u)

abbrev pub DecidesOfGrant : Found → Contents → Caller → Text → Text → Text → Type 0
DecidesOfGrant found c who o t p = ((grant : Grant) → Decides found c who (ToGrant o t p grant)) × Decides found c who (Revoke o t p)

-- an early refusal is that of the machine
abbrev pub EarlyRefusalsStand : Type 0
EarlyRefusalsStand = (S : State) (now : ℕ) (who : Caller) (what : Action) (why : Refusal)
    → early_refusal S now who what ≡ Some why → refusal_by S now who what ≡ Some why

-- ---- the policy alone

-- a caller's standing to a package where the policy allows what they ask of it, or why it doesn't
abbrev pub IsPlaced : Result Standing Refusal → Access → Caller → Ask → Text → Type 0
IsPlaced (Ok standing) A who ask p = (unless_allowed (allowed_in A who ask) ≡ None) × TellsFor ask standing A who p
IsPlaced (Err why) A who ask p = unless_allowed (allowed_in A who ask) ≡ Some why

-- by this standing the policy allows the caller what they ask
abbrev pub IsAllowedBy : Standing → Caller → Ask → Type 0
IsAllowedBy standing who ask = unless_allowed (allowed_at who ask (position_of standing who)) ≡ None

-- by this standing a caller may write the package
abbrev pub LetsWrite : Standing → Type 0
LetsWrite standing = (who : Caller) × (unless_allowed (may_write who (position_of standing who)) ≡ None)

-- the organisation that is asked about
abbrev pub asked_organisation : Ask → Option Text
asked_organisation Operate = None
asked_organisation (OrgMembers o) = Some o.now
asked_organisation (OrgTeams o) = Some o.now
asked_organisation (ToPublish p) = None
asked_organisation (Write p) = None
asked_organisation (Owners p) = None
asked_organisation (Read p) = None
asked_organisation (OrgRead o) = Some o.now

-- the same of an organisation, and of what rows say of it
abbrev pub IsPlacedIn : Result AccessRows Refusal → Access → Caller → Ask → Text → Type 0
IsPlacedIn (Ok rows) A who ask o = (unless_allowed (allowed_in A who ask) ≡ None) × SameOrganisation (state_of rows) A who o
IsPlacedIn (Err why) A who ask o = unless_allowed (allowed_in A who ask) ≡ Some why
