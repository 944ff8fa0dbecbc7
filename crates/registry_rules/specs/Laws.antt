-- What commands make of what the registry holds, said of each map apart.
use Rattle.std.specs.Prelude.{◌≡◌, ◌≢◌, ◌≤◌, ◌∷◌, map, IsTrue, All, ◌↔◌, ◌⊎◌, ℕ, List, true, false, [], Some, None, IsSome, Any, if◌then◌else◌}
use Rattle.registry_names.specs.Keys.{Pair, Triple}
use Rattle.registry_names.specs.Maps.{among, at}
use Rattle.registry_names.specs.Moments.{last_second}
use Rattle.registry_names.specs.Greatest.{greatest}
use Rattle.registry_names.specs.Tags.{latest}
use Rattle.registry_names.specs.Texts.{Text, is}
use Rattle.registry_names.specs.Versions.{IsVersionOf, VersionParts, text_of_version}
use Rattle.registry_names.specs.declared.refusal.Refusal.{Refusal}
use Rattle.registry_names.specs.declared.refusal.Refusal.TheVariants.{NotFound, TooLate}
use Rattle.registry_names.specs.declared.status.Status.{Status}
use Rattle.registry_names.specs.declared.status.Status.TheVariants.{Public, Restricted}
use Rattle.registry_names.specs.Names.{scope_of}
use Rattle.registry_access.specs.declared.caller.Caller.{Caller}
use Rattle.registry_access.specs.declared.caller.Caller.TheVariants.{User}
use Rattle.registry_access.specs.declared.grant.Grant as granted
use Rattle.registry_access.specs.declared.grant.Grant.TheVariants.{ReadWrite}
use Rattle.registry_access.specs.declared.role.Role.{Role}
use Rattle.registry_access.specs.declared.role.Role.TheVariants.{Owner}
use Rattle.registry_publish.specs.Form.{FormParts}
use Rattle.registry_publish.specs.declared.need.Need.{Need}
use Rattle.registry_rules.specs.Actions.{is_command, version_of, names_package, ends_team}
use Rattle.registry_rules.specs.Callers.{caller_of}
use Rattle.registry_rules.specs.Effects.{step_by}
use Rattle.registry_rules.specs.Kept.{IsKept, IsSound}
use Rattle.registry_rules.specs.Permissions.{permission}
use Rattle.registry_rules.specs.Refusals.{refusal_by, unless_allowed}
use Rattle.registry_rules.specs.State.{State, Release, developers, has_live, has_other_owner, has_other_maintainer, is_live}
use Rattle.registry_rules.specs.Withdrawals.{is_depended, live_versions, needs_in, others, selects, versions_in}
use Rattle.registry_ranges.specs.Comparators.{Allows}
use Rattle.registry_ranges.specs.Grammar.{IsRangeText}
use Rattle.registry_ranges.specs.Selectors.{Condition}
use Rattle.registry_rules.specs.declared.request.Action.{Action}
use Rattle.registry_rules.specs.declared.request.Credential.TheVariants.{Token}
use Rattle.registry_rules.specs.declared.request.Action.TheVariants.{UserAdd, TokenAdd, TokenRemove, TokensRemove, OrgCreate, OrgSet, OrgRemove, TeamCreate, TeamDestroy, TeamAdd, TeamRemove, Grant, Revoke, SetAccess, OwnerAdd, OwnerRemove, Publish, TagSet, TagRemove, Withdraw, WithdrawAll, Deprecate}

-- ---- users and tokens

-- the user is there, and nobody else has come or gone
pub record AddsUser (S T : State) (u : Text) : Type 0 where
  pub user : IsSome (at T.access.users u)
  pub users : (w : Text) → w ≢ u → at T.access.users w ≡ at S.access.users w
  pub rest : T ≡ record S { access = record S.access { users = T.access.users } }

-- the token is this user's, and no other token has changed
pub record AddsToken (S T : State) (digest u : Text) : Type 0 where
  pub token : at T.access.tokens digest ≡ Some u
  pub tokens : (d : Text) → d ≢ digest → at T.access.tokens d ≡ at S.access.tokens d
  pub rest : T ≡ record S { access = record S.access { tokens = T.access.tokens } }

-- the token names nobody, and no other token has changed
pub record EndsToken (S T : State) (digest : Text) : Type 0 where
  pub token : at T.access.tokens digest ≡ None
  pub caller : caller_of T (Token digest) ≡ None
  pub tokens : (d : Text) → d ≢ digest → at T.access.tokens d ≡ at S.access.tokens d
  pub rest : T ≡ record S { access = record S.access { tokens = T.access.tokens } }

-- each token that was the user's is nobody's, so that none names them, and no other token has
-- changed
pub record EndsTokens (S T : State) (u : Text) : Type 0 where
  pub ended : (digest : Text) → at S.access.tokens digest ≡ Some u → at T.access.tokens digest ≡ None
  pub caller : (digest : Text) → caller_of T (Token digest) ≢ Some (User u)
  pub tokens : (digest : Text) → at S.access.tokens digest ≢ Some u → at T.access.tokens digest ≡ at S.access.tokens digest
  pub rest : T ≡ record S { access = record S.access { tokens = T.access.tokens } }

abbrev pub UsersAreAdded : Type 0
UsersAreAdded = (S : State) (now : ℕ) (who : Caller) (u : Text) → AddsUser S (step_by S now who (UserAdd u)) u

abbrev pub TokensAreAdded : Type 0
TokensAreAdded = (S : State) (now : ℕ) (who : Caller) (u digest : Text) → AddsToken S (step_by S now who (TokenAdd u digest)) digest u

abbrev pub TokensAreEnded : Type 0
TokensAreEnded = (S : State) (now : ℕ) (who : Caller) (digest : Text) → EndsToken S (step_by S now who (TokenRemove digest)) digest

abbrev pub AllTokensAreEnded : Type 0
AllTokensAreEnded = (S : State) (now : ℕ) (who : Caller) (u : Text) → EndsTokens S (step_by S now who (TokensRemove u)) u

-- a user who asks to end a token that isn't theirs is answered the same whether it is there or not
abbrev pub OthersTokensAreHidden : Type 0
OthersTokensAreHidden = (S : State) (now : ℕ) (u digest : Text) → at S.access.tokens digest ≢ Some u → refusal_by S now (User u) (TokenRemove digest) ≡ Some NotFound

-- ---- organisations

-- the organisation is there, with an owner and its first team, in which they are; nothing else has
-- changed
pub record CreatesOrganisation (S T : State) (o u : Text) : Type 0 where
  pub organisation : IsSome (at T.access.organisations o)
  pub owner : at T.access.roles (o, u) ≡ Some Owner
  pub team : IsSome (at T.access.teams (o, developers))
  pub member : IsSome (at T.access.team_members (o, (developers, u)))
  pub organisations : (p : Text) → p ≢ o → at T.access.organisations p ≡ at S.access.organisations p
  pub roles : (k : Pair) → k ≢ (o, u) → at T.access.roles k ≡ at S.access.roles k
  pub teams : (k : Pair) → k ≢ (o, developers) → at T.access.teams k ≡ at S.access.teams k
  pub team_members : (k : Triple) → k ≢ (o, (developers, u)) → at T.access.team_members k ≡ at S.access.team_members k
  pub rest : T ≡ record S {
    access = record S.access {
      organisations = T.access.organisations;
      roles = T.access.roles;
      teams = T.access.teams;
      team_members = T.access.team_members;
    };
  }

-- the user has this role. A user who had none joins the first team, and one who had a role stays
-- where they are
pub record SetsRole (S T : State) (o u : Text) (new : Role) : Type 0 where
  pub role : at T.access.roles (o, u) ≡ Some new
  pub roles : (k : Pair) → k ≢ (o, u) → at T.access.roles k ≡ at S.access.roles k
  pub joins : at S.access.roles (o, u) ≡ None → IsSome (at T.access.team_members (o, (developers, u)))
  pub stays : IsSome (at S.access.roles (o, u)) → T.access.team_members ≡ S.access.team_members
  pub team_members : (k : Triple) → k ≢ (o, (developers, u)) → at T.access.team_members k ≡ at S.access.team_members k
  pub rest : T ≡ record S { access = record S.access { roles = T.access.roles; team_members = T.access.team_members } }

-- the user isn't a member any more, and is in no team of the organisation; every other member
-- stays, in all their teams
pub record RemovesMember (S T : State) (o u : Text) : Type 0 where
  pub role : at T.access.roles (o, u) ≡ None
  pub roles : (k : Pair) → k ≢ (o, u) → at T.access.roles k ≡ at S.access.roles k
  pub teams : (t : Text) → at T.access.team_members (o, (t, u)) ≡ None
  pub team_members : (p t w : Text) → ◌≢◌ {A = Pair} (p, w) (o, u) → at T.access.team_members (p, (t, w)) ≡ at S.access.team_members (p, (t, w))
  pub rest : T ≡ record S { access = record S.access { roles = T.access.roles; team_members = T.access.team_members } }

abbrev pub OrganisationsAreCreated : Type 0
OrganisationsAreCreated = (S : State) (now : ℕ) (who : Caller) (o u : Text) → CreatesOrganisation S (step_by S now who (OrgCreate o u)) o u

abbrev pub RolesAreSet : Type 0
RolesAreSet = (S : State) (now : ℕ) (who : Caller) (o u : Text) (role : Role) → SetsRole S (step_by S now who (OrgSet o u role)) o u role

abbrev pub MembersAreRemoved : Type 0
MembersAreRemoved = (S : State) (now : ℕ) (who : Caller) (o u : Text) → RemovesMember S (step_by S now who (OrgRemove o u)) o u

-- another owner is another user who is an owner
abbrev pub OtherOwnersAreOwners : Type 0
OtherOwnersAreOwners = (S : State) (o u : Text) → (has_other_owner S o u ≡ true) ↔ ((w : Text) × (w ≢ u) × (at S.access.roles (o, w) ≡ Some Owner))

-- ---- teams

-- the organisation has the team, and no other team has come or gone
pub record CreatesTeam (S T : State) (o t : Text) : Type 0 where
  pub team : IsSome (at T.access.teams (o, t))
  pub teams : (k : Pair) → k ≢ (o, t) → at T.access.teams k ≡ at S.access.teams k
  pub rest : T ≡ record S { access = record S.access { teams = T.access.teams } }

-- nobody is in the team, and it is granted nothing
pub record IsEmptyTeam (S : State) (o t : Text) : Type 0 where
  pub members : (u : Text) → at S.access.team_members (o, (t, u)) ≡ None
  pub grants : (p : Text) → at S.access.grants (o, (t, p)) ≡ None

-- the team is gone, with all that was said of it, and no other team has changed
pub record DestroysTeam (S T : State) (o t : Text) : Type 0 where
  pub team : at T.access.teams (o, t) ≡ None
  pub teams : (k : Pair) → k ≢ (o, t) → at T.access.teams k ≡ at S.access.teams k
  pub emptied : IsEmptyTeam T o t
  pub team_members : (p s u : Text) → ◌≢◌ {A = Pair} (p, s) (o, t) → at T.access.team_members (p, (s, u)) ≡ at S.access.team_members (p, (s, u))
  pub grants : (p s q : Text) → ◌≢◌ {A = Pair} (p, s) (o, t) → at T.access.grants (p, (s, q)) ≡ at S.access.grants (p, (s, q))
  pub rest : T ≡ record S { access = record S.access { teams = T.access.teams; team_members = T.access.team_members; grants = T.access.grants } }

-- only the members of this team have changed, and of them only this one
pub record IsTeamMemberChange (S T : State) (o t u : Text) : Type 0 where
  pub team_members : (k : Triple) → k ≢ (o, (t, u)) → at T.access.team_members k ≡ at S.access.team_members k
  pub rest : T ≡ record S { access = record S.access { team_members = T.access.team_members } }

abbrev pub TeamsAreCreated : Type 0
TeamsAreCreated = (S : State) (now : ℕ) (who : Caller) (o t : Text) → CreatesTeam S (step_by S now who (TeamCreate o t)) o t

-- also one of a name that a destroyed team had
abbrev pub NewTeamsAreEmpty : Type 0
NewTeamsAreEmpty = (S : State) (now : ℕ) (who : Caller) (o t : Text) → IsSound S.access → at S.access.teams (o, t) ≡ None → IsEmptyTeam (step_by S now who (TeamCreate o t)) o t

abbrev pub TeamsAreDestroyed : Type 0
TeamsAreDestroyed = (S : State) (now : ℕ) (who : Caller) (o t : Text) → DestroysTeam S (step_by S now who (TeamDestroy o t)) o t

abbrev pub TeamMembersAreAdded : Type 0
TeamMembersAreAdded = (S : State) (now : ℕ) (who : Caller) (o t u : Text) → let T = step_by S now who (TeamAdd o t u) in
    IsSome (at T.access.team_members (o, (t, u))) × IsTeamMemberChange S T o t u

abbrev pub TeamMembersAreRemoved : Type 0
TeamMembersAreRemoved = (S : State) (now : ℕ) (who : Caller) (o t u : Text) → let T = step_by S now who (TeamRemove o t u) in
    (at T.access.team_members (o, (t, u)) ≡ None) × IsTeamMemberChange S T o t u

-- ---- rights to a package

-- only what teams are granted has changed, and of that only this team's grant on this package
pub record IsGrantChange (S T : State) (o t p : Text) : Type 0 where
  pub grants : (k : Triple) → k ≢ (o, (t, p)) → at T.access.grants k ≡ at S.access.grants k
  pub rest : T ≡ record S { access = record S.access { grants = T.access.grants } }

-- only maintainers have changed, and of them only this one of this package
pub record IsOwnerChange (S T : State) (p u : Text) : Type 0 where
  pub maintainers : (k : Pair) → k ≢ (p, u) → at T.access.maintainers k ≡ at S.access.maintainers k
  pub rest : T ≡ record S { access = record S.access { maintainers = T.access.maintainers } }

abbrev pub GrantsAreGiven : Type 0
GrantsAreGiven = (S : State) (now : ℕ) (who : Caller) (o t p : Text) (grant : granted.Grant) → let T = step_by S now who (Grant o t p grant) in
    (at T.access.grants (o, (t, p)) ≡ Some grant) × IsGrantChange S T o t p

abbrev pub GrantsAreRevoked : Type 0
GrantsAreRevoked = (S : State) (now : ℕ) (who : Caller) (o t p : Text) → let T = step_by S now who (Revoke o t p) in
    (at T.access.grants (o, (t, p)) ≡ None) × IsGrantChange S T o t p

-- the package has this status, and no other package's status has changed
pub record SetsAccess (S T : State) (p : Text) (status : Status) : Type 0 where
  pub set : at T.access.statuses p ≡ Some status
  pub statuses : (q : Text) → q ≢ p → at T.access.statuses q ≡ at S.access.statuses q
  pub rest : T ≡ record S { access = record S.access { statuses = T.access.statuses } }

abbrev pub StatusesAreSet : Type 0
StatusesAreSet = (S : State) (now : ℕ) (who : Caller) (p : Text) (status : Status) → SetsAccess S (step_by S now who (SetAccess p status)) p status

abbrev pub MaintainersAreAdded : Type 0
MaintainersAreAdded = (S : State) (now : ℕ) (who : Caller) (p u : Text) → let T = step_by S now who (OwnerAdd p u) in
    IsSome (at T.access.maintainers (p, u)) × IsOwnerChange S T p u

abbrev pub MaintainersAreRemoved : Type 0
MaintainersAreRemoved = (S : State) (now : ℕ) (who : Caller) (p u : Text) → let T = step_by S now who (OwnerRemove p u) in
    (at T.access.maintainers (p, u) ≡ None) × IsOwnerChange S T p u

-- another maintainer is another user who is a maintainer
abbrev pub OtherMaintainersAreMaintainers : Type 0
OtherMaintainersAreMaintainers = (S : State) (p u : Text) → (has_other_maintainer S p u ≡ true) ↔ ((w : Text) × (w ≢ u) × IsSome (at S.access.maintainers (p, w)))

-- ---- a publish

-- its version lives, with its manifest, its archive and its moment, and no other version changes
pub record AddsVersion (S T : State) (now : ℕ) (f : FormParts) : Type 0 where
  pub version : at T.live (f.name, version_of f) ≡ Some (record { at = now; manifest = f.manifest; archive = f.archive; message = [] })
  pub versions : (k : Pair) → k ≢ (f.name, version_of f) → at T.live k ≡ at S.live k
  pub spent : T.spent ≡ S.spent

-- its tag names the version, and so does `latest` where there was none; no other tag changes
pub record SetsTags (S T : State) (f : FormParts) : Type 0 where
  pub tag : at T.tags (f.name, f.tag) ≡ Some (version_of f)
  pub first_latest : at S.tags (f.name, latest) ≡ None → at T.tags (f.name, latest) ≡ Some (version_of f)
  pub latest_stays : IsSome (at S.tags (f.name, latest)) → f.tag ≢ latest → at T.tags (f.name, latest) ≡ at S.tags (f.name, latest)
  pub tags : (k : Pair) → k ≢ (f.name, f.tag) → k ≢ (f.name, latest) → at T.tags k ≡ at S.tags k

-- Its package has the status that it asks for; otherwise the one that it had; otherwise it is
-- restricted with a scope, and public without one
pub record SetsStatus (S T : State) (f : FormParts) : Type 0 where
  pub asked : (status : Status) → f.access ≡ Some status → at T.access.statuses f.name ≡ Some status
  pub later : f.access ≡ None → IsSome (at S.access.statuses f.name) → at T.access.statuses f.name ≡ at S.access.statuses f.name
  pub first_scoped : f.access ≡ None → at S.access.statuses f.name ≡ None → IsSome (scope_of f.name) → at T.access.statuses f.name ≡ Some Restricted
  pub first_unscoped : f.access ≡ None → at S.access.statuses f.name ≡ None → scope_of f.name ≡ None → at T.access.statuses f.name ≡ Some Public
  pub statuses : (p : Text) → p ≢ f.name → at T.access.statuses p ≡ at S.access.statuses p

-- The first team of a new package's scope reads and writes it, and without a scope its publisher
-- maintains it. Otherwise nobody is let in or shut out
pub record GivesFirstRight (S T : State) (who : Caller) (f : FormParts) : Type 0 where
  pub later : IsSome (at S.access.statuses f.name) → T.access ≡ record S.access { statuses = T.access.statuses }
  pub scoped : (o : Text) → at S.access.statuses f.name ≡ None → scope_of f.name ≡ Some o → at T.access.grants (o, (developers, f.name)) ≡ Some ReadWrite
  pub unscoped : (u : Text) → at S.access.statuses f.name ≡ None → scope_of f.name ≡ None → who ≡ User u → IsSome (at T.access.maintainers (f.name, u))
  pub grants : (o t p : Text) → (scope_of f.name ≡ Some o → ◌≢◌ {A = Pair} (t, p) (developers, f.name)) → at T.access.grants (o, (t, p)) ≡ at S.access.grants (o, (t, p))
  pub maintainers : (p u : Text) → (scope_of f.name ≡ None → who ≡ User u → p ≢ f.name) → at T.access.maintainers (p, u) ≡ at S.access.maintainers (p, u)
  pub rest : T.access ≡ record S.access { statuses = T.access.statuses; grants = T.access.grants; maintainers = T.access.maintainers }

abbrev pub PublishesGiveFirstRights : Type 0
PublishesGiveFirstRights = (S : State) (now : ℕ) (who : Caller) (f : FormParts) → GivesFirstRight S (step_by S now who (Publish f)) who f

abbrev pub PublishesAddVersions : Type 0
PublishesAddVersions = (S : State) (now : ℕ) (who : Caller) (f : FormParts) → AddsVersion S (step_by S now who (Publish f)) now f

abbrev pub PublishesSetTags : Type 0
PublishesSetTags = (S : State) (now : ℕ) (who : Caller) (f : FormParts) → SetsTags S (step_by S now who (Publish f)) f

abbrev pub PublishesSetStatuses : Type 0
PublishesSetStatuses = (S : State) (now : ℕ) (who : Caller) (f : FormParts) → SetsStatus S (step_by S now who (Publish f)) f

-- ---- a tag

-- only the tags of this package have changed, and of them only this one
pub record IsTagChange (S T : State) (p t : Text) : Type 0 where
  pub tags : (k : Pair) → k ≢ (p, t) → at T.tags k ≡ at S.tags k
  pub live : T.live ≡ S.live
  pub spent : T.spent ≡ S.spent
  pub access : T.access ≡ S.access

-- a tag that is set names the version, whether it named another or none
abbrev pub SetTagsName : Type 0
SetTagsName = (S : State) (now : ℕ) (who : Caller) (p t : Text) (v : VersionParts) → let T = step_by S now who (TagSet p t v) in
    (at T.tags (p, t) ≡ Some (text_of_version v)) × IsTagChange S T p t

-- a tag that is removed is gone
abbrev pub RemovedTagsAreGone : Type 0
RemovedTagsAreGone = (S : State) (now : ℕ) (who : Caller) (p t : Text) → let T = step_by S now who (TagRemove p t) in
    (at T.tags (p, t) ≡ None) × IsTagChange S T p t

-- ---- a withdrawal

-- The version lives no more and is spent, with both moments; no other version has changed
pub record SpendsVersion (S T : State) (now : ℕ) (p v : Text) (release : Release) : Type 0 where
  pub gone : at T.live (p, v) ≡ None
  pub spent : at T.spent (p, v) ≡ Some (record { published = release.at; withdrawn = now })
  pub live : (k : Pair) → k ≢ (p, v) → at T.live k ≡ at S.live k
  pub others : (k : Pair) → k ≢ (p, v) → at T.spent k ≡ at S.spent k
  pub access : T.access ≡ S.access

-- No tag names it: `latest`, where it did, names the greatest other live version, or is gone where
-- there is none, and each other tag that did is gone. All that named another version stay
pub record FreesTags (S T : State) (p v : Text) : Type 0 where
  pub moved : at S.tags (p, latest) ≡ Some v → at T.tags (p, latest) ≡ greatest (others (live_versions S p) v)
  pub gone : (t : Text) → t ≢ latest → at S.tags (p, t) ≡ Some v → at T.tags (p, t) ≡ None
  pub stays : (t : Text) → at S.tags (p, t) ≢ Some v → at T.tags (p, t) ≡ at S.tags (p, t)
  pub tags : (q t : Text) → q ≢ p → at T.tags (q, t) ≡ at S.tags (q, t)

abbrev pub WithdrawalsSpend : Type 0
WithdrawalsSpend = (S : State) (now : ℕ) (who : Caller) (p : Text) (v : VersionParts) (release : Release) → at S.live (p, text_of_version v) ≡ Some release
    → SpendsVersion S (step_by S now who (Withdraw p v)) now p (text_of_version v) release

abbrev pub WithdrawalsFreeTags : Type 0
WithdrawalsFreeTags = (S : State) (now : ℕ) (who : Caller) (p : Text) (v : VersionParts) → IsSome (at S.live (p, text_of_version v))
    → FreesTags S (step_by S now who (Withdraw p v)) p (text_of_version v)

-- ---- the withdrawal of all versions

-- no text occurs twice
abbrev pub IsOnce : List Text → Type 0
IsOnce [] = Unit {0}
IsOnce (t ∷ ts) = (among is ts t ≡ false) × IsOnce ts

-- these are the live versions of the package, each once and in any order
pub record AreTheLive (S : State) (p : Text) (vs : List VersionParts) : Type 0 where
  pub form : All (λ v. IsVersionOf (text_of_version v) v) vs
  pub once : IsOnce (map text_of_version vs)
  pub live : (v : Text) → is_live S p v ≡ among is (map text_of_version vs) v

-- such are those in byte order
abbrev pub LiveVersionsAreTheLive : Type 0
LiveVersionsAreTheLive = (S : State) (p : Text) → IsKept S → AreTheLive S p (versions_in (live_versions S p))

-- what is left when each of these versions is withdrawn, one after another
abbrev pub all_withdrawn : State → ℕ → Caller → Text → List VersionParts → State
all_withdrawn S now who p [] = S
all_withdrawn S now who p (v ∷ vs) = all_withdrawn (step_by S now who (Withdraw p v)) now who p vs

-- the withdrawal of each is accepted on what the earlier ones left
abbrev pub AreAccepted : State → ℕ → Caller → Text → List VersionParts → Type 0
AreAccepted S now who p [] = Unit {0}
AreAccepted S now who p (v ∷ vs) = (refusal_by S now who (Withdraw p v) ≡ None) × AreAccepted (step_by S now who (Withdraw p v)) now who p vs

-- where it isn't refused, it is the run of the withdrawals of the live versions, in any order, at
-- the same moment and by the same caller; each of them is accepted
abbrev pub WithdrawalsOfAllAreRuns : Type 0
WithdrawalsOfAllAreRuns = (S : State) (now : ℕ) (who : Caller) (p : Text) (vs : List VersionParts) → IsKept S → now ≤ last_second → AreTheLive S p vs
    → refusal_by S now who (WithdrawAll p) ≡ None → AreAccepted S now who p vs × (step_by S now who (WithdrawAll p) ≡ all_withdrawn S now who p vs)

-- Where a version lives, it is refused as the withdrawal of one of them is. Where the withdrawal of
-- one of them is refused, so is it, and as too late where one is too late. Where none lives and the
-- policy allows it, it isn't found
pub record IsRefusedAsOne (S : State) (now : ℕ) (who : Caller) (p : Text) : Type 0 where
  pub as_one : (why : Refusal) → IsTrue (has_live S p) → refusal_by S now who (WithdrawAll p) ≡ Some why
      → (v : VersionParts) × IsVersionOf (text_of_version v) v × IsTrue (is_live S p (text_of_version v)) × (refusal_by S now who (Withdraw p v) ≡ Some why)
  pub if_one : (v : VersionParts) (why : Refusal) → IsVersionOf (text_of_version v) v → IsTrue (is_live S p (text_of_version v)) → refusal_by S now who (Withdraw p v) ≡ Some why
      → IsSome (refusal_by S now who (WithdrawAll p))
  pub too_late : (v : VersionParts) → IsTrue (is_live S p (text_of_version v)) → refusal_by S now who (Withdraw p v) ≡ Some TooLate → refusal_by S now who (WithdrawAll p) ≡ Some TooLate
  pub none_lives : has_live S p ≡ false → unless_allowed (permission S.access who (WithdrawAll p)) ≡ None → refusal_by S now who (WithdrawAll p) ≡ Some NotFound

abbrev pub WithdrawalsOfAllAreRefusedAsOne : Type 0
WithdrawalsOfAllAreRefusedAsOne = (S : State) (now : ℕ) (who : Caller) (p : Text) → IsKept S → IsRefusedAsOne S now who p

-- No version of the package lives, and no tag of it is left. Each that lived is spent, with both
-- moments; nothing else has changed
pub record WithdrawsAll (S T : State) (now : ℕ) (p : Text) : Type 0 where
  pub gone : (v : Text) → at T.live (p, v) ≡ None
  pub tags : (t : Text) → at T.tags (p, t) ≡ None
  pub spent : (v : Text) (release : Release) → at S.live (p, v) ≡ Some release → at T.spent (p, v) ≡ Some (record { published = release.at; withdrawn = now })
  pub earlier : (v : Text) → at S.live (p, v) ≡ None → at T.spent (p, v) ≡ at S.spent (p, v)
  pub live : (q v : Text) → q ≢ p → at T.live (q, v) ≡ at S.live (q, v)
  pub others : (q v : Text) → q ≢ p → at T.spent (q, v) ≡ at S.spent (q, v)
  pub other_tags : (q t : Text) → q ≢ p → at T.tags (q, t) ≡ at S.tags (q, t)
  pub access : T.access ≡ S.access

abbrev pub WithdrawalsOfAllSpend : Type 0
WithdrawalsOfAllSpend = (S : State) (now : ℕ) (who : Caller) (p : Text) → WithdrawsAll S (step_by S now who (WithdrawAll p)) now p

-- ---- a deprecation

-- each live version of the package that the conditions select has the message, and nothing else has
-- changed
pub record Deprecates (S T : State) (p : Text) (conditions : List (List Condition)) (message : Text) : Type 0 where
  pub selected : (v : Text) (release : Release) → selects conditions v ≡ true → at S.live (p, v) ≡ Some release → at T.live (p, v) ≡ Some (record release { message = message })
  pub unselected : (v : Text) → selects conditions v ≡ false → at T.live (p, v) ≡ at S.live (p, v)
  pub live : (q v : Text) → q ≢ p → at T.live (q, v) ≡ at S.live (q, v)
  pub gone : (k : Pair) → at S.live k ≡ None → at T.live k ≡ None
  pub rest : T ≡ record S { live = T.live }

abbrev pub DeprecationsMark : Type 0
DeprecationsMark = (S : State) (now : ℕ) (who : Caller) (p : Text) (conditions : List (List Condition)) (message : Text) → Deprecates S (step_by S now who (Deprecate p conditions message)) p conditions message

-- ---- all actions

abbrev pub QueriesChangeNothing : Type 0
QueriesChangeNothing = (S : State) (now : ℕ) (who : Caller) (what : Action) → is_command what ≡ false → step_by S now who what ≡ S

-- all that is held of the package is the same, but that a team that this action ends is granted
-- nothing on it
pub record IsApart (S T : State) (what : Action) (p : Text) : Type 0 where
  pub live : (v : Text) → at T.live (p, v) ≡ at S.live (p, v)
  pub spent : (v : Text) → at T.spent (p, v) ≡ at S.spent (p, v)
  pub tags : (t : Text) → at T.tags (p, t) ≡ at S.tags (p, t)
  pub status : at T.access.statuses p ≡ at S.access.statuses p
  pub maintainers : (u : Text) → at T.access.maintainers (p, u) ≡ at S.access.maintainers (p, u)
  pub grants : (o t : Text) → at T.access.grants (o, (t, p)) ≡ (if ends_team what o t then None else at S.access.grants (o, (t, p)))

-- an action changes nothing of a package that it doesn't name
abbrev pub PackagesStandApart : Type 0
PackagesStandApart = (S : State) (now : ℕ) (who : Caller) (what : Action) (p : Text) → names_package what p ≡ false → IsApart S (step_by S now who what) what p

-- ---- who needs a version

-- the need is of the package, with a text that isn't a range, or that allows the version
pub record IsNeedOf (p : Text) (v : VersionParts) (need : Need) : Type 0 where
  pub target : need.target ≡ p
  pub range : (¬ IsRangeText need.range) ⊎ Allows need.range v

-- the release of another package lives, and its manifest has such a need
pub record IsDependent (S : State) (p : Text) (v : VersionParts) (k : Pair) (release : Release) : Type 0 where
  pub other : k.0 ≢ p
  pub lives : at S.live k ≡ Some release
  pub needs : Any (IsNeedOf p v) (needs_in release)

-- a version is needed where there is such a release, and nowhere else
abbrev pub NeededHaveDependents : Type 0
NeededHaveDependents = (S : State) (p : Text) (v : VersionParts) → (is_depended S p v ≡ true) ↔ ((k : Pair) × (release : Release) × IsDependent S p v k release)
