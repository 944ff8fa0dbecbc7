-- Why a request is refused, on what the registry holds: the first reason that holds, if one
-- does.
use Rattle.std.specs.Prelude.{ℕ, Bool, true, false, List, not, ◌&&◌, ◌||◌, is_none, Option, Some, None, Result, Ok, Err, if◌then◌else◌}
use Rattle.std.specs.List.{list_any}
use Rattle.std.specs.Option.{option_or}
use Rattle.registry_names.specs.Tags.{latest}
use Rattle.registry_names.specs.Texts.{Text, is}
use Rattle.registry_names.specs.Maps.{at}
use Rattle.registry_names.specs.Versions.{text_of_version}
use Rattle.registry_names.specs.declared.refusal.Refusal.{Refusal}
use Rattle.registry_names.specs.declared.refusal.Refusal.TheVariants.{NoCaller, NotFound, LastOwner, KeepsDevelopers, Exists, Published, Spent, TooLate, Depended, KeepsLatest, OtherScope, AlwaysPublic, Waiting}
use Rattle.registry_names.specs.declared.status.Status.{Status}
use Rattle.registry_names.specs.declared.status.Status.TheVariants.{Public, Restricted}
use Rattle.registry_names.specs.Names.{scope_of}
use Rattle.registry_access.specs.Levels.{is_owner}
use Rattle.registry_access.specs.Policy.{Verdict}
use Rattle.registry_access.specs.Positions.{has_organisation}
use Rattle.registry_access.specs.declared.caller.Caller.{Caller}
use Rattle.registry_publish.specs.Form.{FormParts}
use Rattle.registry_rules.specs.Actions.{version_of}
use Rattle.registry_rules.specs.Callers.{caller_of}
use Rattle.registry_rules.specs.Permissions.{permission}
use Rattle.registry_rules.specs.State.{State, developers, has_user, has_token, is_member, has_team, is_in_team, has_grant, is_published, has_maintainer, has_other_maintainer, is_last_owner, is_empty, is_live, is_spent, has_live, stands, asked_version, lives}
use Rattle.registry_rules.specs.Withdrawals.{is_any_depended, is_depended, is_too_old, is_waiting, live_since, published_at}
use Rattle.registry_rules.specs.declared.request.Action.{Action}
use Rattle.registry_rules.specs.declared.request.Action.TheVariants.{UserAdd, TokenAdd, TokenRemove, TokensRemove, OrgCreate, OrgSet, OrgRemove, TeamCreate, TeamDestroy, TeamAdd, TeamRemove, Grant, Revoke, SetAccess, OwnerAdd, OwnerRemove, Publish, TagSet, TagRemove, Withdraw, WithdrawAll, Deprecate, Packument, AbbreviatedPackument, RevisedPackument, VersionDoc, Archive, Tags, Members, Teams, TeamMembers, TeamPackages, WhoAmI, Maintainers, OrgPackages, MyPackages, Users, Organisations, Packages}
use Rattle.registry_rules.specs.declared.request.Request.{Request}

abbrev pub refuse : Bool → Refusal → Option Refusal → Option Refusal
refuse b r rest = if b then Some r else rest

abbrev pub is_restricted : Option Status → Bool
is_restricted (Some Restricted) = true
is_restricted (Some Public) = false
is_restricted None = false

-- what isn't there isn't found
abbrev pub unless_there : Bool → Option Refusal
unless_there found = refuse (not found) NotFound None

-- what is there already isn't new
abbrev pub unless_new : Bool → Option Refusal
unless_new found = refuse found Exists None

-- why a verdict turns a caller away, if it does
abbrev pub unless_allowed : Verdict → Option Refusal
unless_allowed (Ok rule) = None
unless_allowed (Err r) = Some r

-- ---- what conflicts with an action

-- A live version is never published again, and neither is one that was withdrawn; a package without
-- a scope is never restricted; and one of which all versions were withdrawn waits a day
abbrev pub publish_refusal : State → ℕ → FormParts → Option Refusal
publish_refusal S now f = refuse (is_live S f.name (version_of f)) Published
    (refuse (is_spent S f.name (version_of f)) Spent
    (refuse (is_restricted f.access && is_none (scope_of f.name)) AlwaysPublic
    (refuse (is_waiting S now f.name) Waiting None)))

-- Of a version that was published at a moment, if it lives: it isn't withdrawn more than three days
-- after that, nor while another package needs it
abbrev pub withdraw_refusal : ℕ → Option ℕ → Bool → Option Refusal
withdraw_refusal now None depended = Some NotFound
withdraw_refusal now (Some published) depended = refuse (is_too_old now published) TooLate (refuse depended Depended None)

-- Of all live versions of a package, each with when it was published: where there is none, or else
-- the first reason for which the withdrawal of one of them is refused
abbrev pub withdraw_all_refusal : ℕ → List (Text × ℕ) → Bool → Option Refusal
withdraw_all_refusal now live depended = refuse (is_empty live) NotFound
    (refuse (list_any (λ (e : Text × ℕ). is_too_old now e.1) live) TooLate
    (refuse depended Depended None))

-- a tag that isn't there can't go, and `latest` never goes
abbrev pub tag_refusal : Bool → Text → Option Refusal
tag_refusal there t = refuse (not there) NotFound (refuse (is t latest) KeepsLatest None)

-- the scope is this organisation's
abbrev pub is_scope : Text → Option Text → Bool
is_scope o None = false
is_scope o (Some s) = is s o

-- A team is granted something on a package of its organisation's scope that was published. Of a
-- package of another scope it isn't said whether it was
abbrev pub grant_refusal : Bool → Bool → Text → Text → Option Refusal
grant_refusal team published o p = refuse (not team || (is_scope o (scope_of p) && not published)) NotFound (refuse (not (is_scope o (scope_of p))) OtherScope None)

-- At this moment. What is there already isn't added, and what isn't there isn't found. An
-- organisation keeps an owner and its first team, and a package its last maintainer; only members
-- are in teams. A tag is set only to a live version, and only a live version has a document and an
-- archive; a package without a live version has no packument and no tags, but has maintainers
abbrev pub state_refusal : State → ℕ → Action → Option Refusal
state_refusal S now (UserAdd u) = unless_new (has_user S u)
state_refusal S now (TokenAdd u digest) = refuse (not (has_user S u)) NotFound (unless_new (has_token S digest))
state_refusal S now (TokenRemove digest) = unless_there (has_token S digest)
state_refusal S now (TokensRemove u) = unless_there (has_user S u)
state_refusal S now (OrgCreate o u) = refuse (not (has_user S u)) NotFound (unless_new (has_organisation S.access o))
state_refusal S now (OrgSet o u role) = refuse (not (has_user S u)) NotFound (refuse (not (is_owner (Some role)) && is_last_owner S o u) LastOwner None)
state_refusal S now (OrgRemove o u) = refuse (is_none (at S.access.roles (o, u))) NotFound (refuse (is_last_owner S o u) LastOwner None)
state_refusal S now (TeamCreate o t) = unless_new (has_team S o t)
state_refusal S now (TeamDestroy o t) = refuse (not (has_team S o t)) NotFound (refuse (is t developers) KeepsDevelopers None)
state_refusal S now (TeamAdd o t u) = unless_there (has_team S o t && is_member S o u)
state_refusal S now (TeamRemove o t u) = unless_there (has_team S o t && is_in_team S o t u)
state_refusal S now (Grant o t p grant) = grant_refusal (has_team S o t) (is_published S p) o p
state_refusal S now (Revoke o t p) = unless_there (has_grant S o t p)
state_refusal S now (SetAccess p status) = refuse (is_restricted (Some status) && is_none (scope_of p)) AlwaysPublic None
state_refusal S now (OwnerAdd p u) = unless_there (has_user S u)
state_refusal S now (OwnerRemove p u) = refuse (not (has_maintainer S p u)) NotFound (refuse (not (has_other_maintainer S p u)) LastOwner None)
state_refusal S now (Publish f) = publish_refusal S now f
state_refusal S now (TagSet p t v) = unless_there (is_live S p (text_of_version v))
state_refusal S now (TagRemove p t) = tag_refusal (stands S p t) t
state_refusal S now (Withdraw p v) = withdraw_refusal now (published_at S p (text_of_version v)) (is_depended S p v)
state_refusal S now (WithdrawAll p) = withdraw_all_refusal now (live_since S p) (is_any_depended S p)
state_refusal S now (Deprecate p selector message) = None
state_refusal S now (Packument p) = unless_there (has_live S p)
state_refusal S now (AbbreviatedPackument p) = unless_there (has_live S p)
state_refusal S now (RevisedPackument p) = unless_there (has_live S p)
state_refusal S now (VersionDoc p asked) = unless_there (lives S p (asked_version S p asked))
state_refusal S now (Archive p v) = unless_there (is_live S p (text_of_version v))
state_refusal S now (Tags p) = unless_there (has_live S p)
state_refusal S now (Members o) = None
state_refusal S now (Teams o) = None
state_refusal S now (TeamMembers o t) = unless_there (has_team S o t)
state_refusal S now (TeamPackages o t) = unless_there (has_team S o t)
state_refusal S now WhoAmI = None
state_refusal S now (Maintainers p) = None
state_refusal S now (OrgPackages o) = None
state_refusal S now MyPackages = None
state_refusal S now Users = None
state_refusal S now Organisations = None
state_refusal S now Packages = None

-- ---- requests

-- why an action of this caller is refused: by the policy first, and then by what conflicts with it
abbrev pub refusal_by : State → ℕ → Caller → Action → Option Refusal
refusal_by S now who what = option_or (unless_allowed (permission S.access who what)) (state_refusal S now what)

-- an action of nobody is refused before all else
abbrev pub refusal_for : State → ℕ → Option Caller → Action → Option Refusal
refusal_for S now None what = Some NoCaller
refusal_for S now (Some who) what = refusal_by S now who what

abbrev pub refusal : State → Request → Option Refusal
refusal S r = refusal_for S r.at (caller_of S r.who) r.what

-- a refusal that there may be, as a result
abbrev pub permitted : Option Refusal → Result (Unit {0}) Refusal
permitted None = Ok tt
permitted (Some r) = Err r
