-- What each command changes where nothing refuses it: one equation a command. A query changes
-- nothing.
use Rattle.std.specs.Prelude.{ℕ, Bool, List, [], ◌∷◌, ◌++◌, map, ◌||◌, is_some, Option, Some, None, if◌then◌else◌}
use Rattle.std.specs.Option.{option_to_list}
use Rattle.registry_names.specs.Greatest.{greatest}
use Rattle.registry_names.specs.Tags.{latest}
use Rattle.registry_names.specs.Texts.{Text, is}
use Rattle.registry_names.specs.Maps.{at}
use Rattle.registry_names.specs.Versions.{text_of_version}
use Rattle.registry_names.specs.declared.status.Status.{Status}
use Rattle.registry_names.specs.declared.status.Status.TheVariants.{Public, Restricted}
use Rattle.registry_names.specs.Names.{scope_of}
use Rattle.registry_access.specs.declared.caller.Caller.{Caller}
use Rattle.registry_access.specs.declared.caller.Caller.TheVariants.{Operator, User, Anonymous}
use Rattle.registry_access.specs.declared.grant.Grant.TheVariants.{ReadWrite}
use Rattle.registry_access.specs.declared.role.Role.{Role}
use Rattle.registry_access.specs.declared.role.Role.TheVariants.{Owner}
use Rattle.registry_publish.specs.Form.{FormParts}
use Rattle.registry_rules.specs.Actions.{version_of}
use Rattle.registry_rules.specs.Callers.{caller_of}
use Rattle.registry_rules.specs.Changes.{Change, AddUser, AddToken, DropToken, AddOrg, PutMember, DropMember, AddTeam, PutTeamMember, DropTeamMember, DropTeam, PutGrant, DropGrant, PutOwner, DropOwner, PutStatus, AddVersion, RetireVersion, PutDeprecation, PutTag, DropTag, all_made}
use Rattle.registry_rules.specs.State.{State, developers, tokens_of, is_in_team, has_maintainer, stands}
use Rattle.registry_rules.specs.Withdrawals.{all_tags, live_since, live_versions, others, published_at, selected, tags_of}
use Rattle.registry_rules.specs.declared.request.Action.{Action}
use Rattle.registry_rules.specs.declared.request.Action.TheVariants.{UserAdd, TokenAdd, TokenRemove, TokensRemove, OrgCreate, OrgSet, OrgRemove, TeamCreate, TeamDestroy, TeamAdd, TeamRemove, Grant, Revoke, SetAccess, OwnerAdd, OwnerRemove, Publish, TagSet, TagRemove, Withdraw, WithdrawAll, Deprecate}
use Rattle.registry_rules.specs.declared.request.Request.{Request}

-- ---- tokens

-- each of these tokens ends
abbrev pub ending : List Text → List Change
ending digests = map DropToken digests

-- ---- organisations

-- it has an owner, and its first team with the owner in it
abbrev pub creation : Text → Text → List Change
creation o u = AddOrg o ∷ PutMember o u Owner ∷ AddTeam o developers ∷ PutTeamMember o developers u ∷ []

-- a member gets another role; a new member joins the first team
abbrev pub membership : Text → Text → Role → Option Role → List Change
membership o u role (Some old) = PutMember o u role ∷ []
membership o u role None = PutMember o u role ∷ PutTeamMember o developers u ∷ []

-- ---- teams

-- a user who is in the team already stays in it
abbrev pub joining : Text → Text → Text → Bool → List Change
joining o t u inside = if inside then [] else PutTeamMember o t u ∷ []

-- ---- a publish

-- a package with a scope is restricted until its status is set, and one without a scope is public
abbrev pub first_status : Text → Status
first_status p = if is_some (scope_of p) then Restricted else Public

-- The status that a publish sets: the one that it asks for; otherwise the first, where the package
-- has none yet
abbrev pub new_status : Option Status → Option Status → Text → Option Status
new_status (Some asked) old p = Some asked
new_status None (Some old) p = None
new_status None None p = Some (first_status p)

-- a status is put where there is one to put
abbrev pub put_status : Text → Option Status → List Change
put_status p None = []
put_status p (Some status) = PutStatus p status ∷ []

-- The right to a new package: the first team of its scope reads and writes it; without a scope its
-- publisher maintains it
abbrev pub right_to : Caller → Text → Option Text → Option Change
right_to who p (Some o) = Some (PutGrant o developers p ReadWrite)
right_to (User u) p None = Some (PutOwner p u)
right_to Operator p None = None
right_to Anonymous p None = None

-- it is given with the first publication
abbrev pub first_right : Caller → Text → Option Status → Option Change
first_right who p (Some old) = None
first_right who p None = right_to who p (scope_of p)

-- The form's tag names the version, and so does `latest` where there is none
abbrev pub put_tags : State → Text → Text → Text → List Change
put_tags S p t v = (if stands S p latest || is t latest then [] else PutTag p latest v ∷ []) ++ PutTag p t v ∷ []

abbrev pub publication : State → ℕ → Caller → FormParts → List Change
publication S now who f = put_status f.name (new_status f.access (at S.access.statuses f.name) f.name)
    ++ option_to_list (first_right who f.name (at S.access.statuses f.name)) ++ AddVersion f now ∷ put_tags S f.name f.tag (version_of f)

-- ---- a withdrawal

-- A tag that names a version that goes: `latest` is to name the other version, if there is one, and
-- each other tag goes
abbrev pub freed : Text → Option Text → Text → Change
freed p None t = DropTag p t
freed p (Some other) t = if is t latest then PutTag p t other else DropTag p t

-- The withdrawal of a version that was published at a moment, if it lives. First the tags that name
-- it change: `latest` is to name the greatest of the other live versions. Then the version goes
abbrev pub withdrawal : ℕ → Text → Text → Option ℕ → List Text → List Text → List Change
withdrawal now p v None live tags = []
withdrawal now p v (Some published) live tags = map (freed p (greatest (others live v))) tags ++ RetireVersion p v published now ∷ []

-- The withdrawal of all live versions, of which each was published at its moment: every tag of the
-- package goes, and then each version
abbrev pub withdrawal_of_all : ℕ → Text → List (Text × ℕ) → List Text → List Change
withdrawal_of_all now p live tags = map (DropTag p) tags ++ map (λ (e : Text × ℕ). RetireVersion p e.0 e.1 now) live

-- ---- a deprecation

-- each of these versions has the message
abbrev pub deprecation : Text → Text → List Text → List Change
deprecation p message vs = map (λ v. PutDeprecation p v message) vs

-- ---- rights to a package

-- a user who is a maintainer already stays one
abbrev pub maintaining : Text → Text → Bool → List Change
maintaining p u already = if already then [] else PutOwner p u ∷ []

-- ---- all commands

abbrev pub effects : State → ℕ → Caller → Action → List Change
effects S now who (UserAdd u) = AddUser u ∷ []
effects S now who (TokenAdd u digest) = AddToken digest u ∷ []
effects S now who (TokenRemove digest) = DropToken digest ∷ []
effects S now who (TokensRemove u) = ending (tokens_of S u)
effects S now who (OrgCreate o u) = creation o u
effects S now who (OrgSet o u role) = membership o u role (at S.access.roles (o, u))
effects S now who (OrgRemove o u) = DropMember o u ∷ []
effects S now who (TeamCreate o t) = AddTeam o t ∷ []
effects S now who (TeamDestroy o t) = DropTeam o t ∷ []
effects S now who (TeamAdd o t u) = joining o t u (is_in_team S o t u)
effects S now who (TeamRemove o t u) = DropTeamMember o t u ∷ []
effects S now who (Grant o t p grant) = PutGrant o t p grant ∷ []
effects S now who (Revoke o t p) = DropGrant o t p ∷ []
effects S now who (SetAccess p status) = PutStatus p status ∷ []
effects S now who (OwnerAdd p u) = maintaining p u (has_maintainer S p u)
effects S now who (OwnerRemove p u) = DropOwner p u ∷ []
effects S now who (Publish f) = publication S now who f
effects S now who (TagSet p t v) = PutTag p t (text_of_version v) ∷ []
effects S now who (TagRemove p t) = DropTag p t ∷ []
effects S now who (Withdraw p v) = withdrawal now p (text_of_version v) (published_at S p (text_of_version v)) (live_versions S p) (tags_of S p (text_of_version v))
effects S now who (WithdrawAll p) = withdrawal_of_all now p (live_since S p) (all_tags S p)
effects S now who (Deprecate p selector message) = deprecation p message (selected (live_versions S p) selector)
effects S now who _ = []

-- what a caller's action makes of what the registry holds
abbrev pub step_by : State → ℕ → Caller → Action → State
step_by S now who what = all_made S (effects S now who what)

-- the changes of a request. A request of nobody has none
abbrev pub effects_for : State → ℕ → Option Caller → Action → List Change
effects_for S now None what = []
effects_for S now (Some who) what = effects S now who what

abbrev pub effects_of : State → Request → List Change
effects_of S r = effects_for S r.at (caller_of S r.who) r.what

-- what a request makes that nothing refuses
abbrev pub step : State → Request → State
step S r = all_made S (effects_of S r)
