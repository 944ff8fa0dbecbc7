-- The laws of what commands make.
use Rattle.std.proofs.Common.{◌≡◌, ◌≢◌, ℕ, Bool, true, false, cond, not, ◌&&◌, ◌||◌, List, is_some, Option, Some, None, Ok, option_map, refl, sym, ap, ◌∙◌, subst, true≢false, if◌then◌else◌, Ordering}
use Rattle.std.proofs.lemmas.Bool.{and_right}
use Rattle.std.specs.Prelude.{IsSome}
use Rattle.std.specs.Option.{option_or}
use Rattle.registry_names.specs.Keys.{IsKey, Pair, Triple, pair_is, triple_is}
use Rattle.registry_names.specs.Maps.{TextMap, PairMap, TripleMap, among, at, put, keep}
use Rattle.registry_names.specs.Greatest.{greatest}
use Rattle.registry_names.specs.Tags.{latest}
use Rattle.registry_names.specs.Texts.{Text, is}
use Rattle.registry_names.specs.Versions.{VersionParts, text_of_version}
use Rattle.registry_names.specs.declared.refusal.Rule.TheVariants.{A10}
use Rattle.registry_names.specs.declared.status.Status.{Status}
use Rattle.registry_names.specs.declared.status.Status.TheVariants.{Public, Restricted}
use Rattle.registry_names.proofs.KeyFacts.{text_key, pair_key, triple_key, same_true, same_self}
use Rattle.registry_names.proofs.MapFacts.{at-put, at-put_same, at-put_other, at-erase_same, at-erase_other, at-keep}
use Rattle.registry_names.proofs.PartFacts.{any-part}
use Rattle.registry_names.proofs.PutFacts.{put_there}
use Rattle.registry_ranges.specs.Selectors.{Condition}
use Rattle.registry_access.specs.Access.{Access}
use Rattle.registry_access.specs.Policy.{is_theirs, where_found}
use Rattle.registry_access.specs.declared.caller.Caller.{Caller}
use Rattle.registry_access.specs.declared.caller.Caller.TheVariants.{Operator, User, Anonymous}
use Rattle.registry_access.specs.declared.grant.Grant.{Grant}
use Rattle.registry_access.specs.declared.grant.Grant.TheVariants.{ReadWrite}
use Rattle.registry_access.specs.declared.role.Role.{Role}
use Rattle.registry_access.specs.declared.role.Role.TheVariants.{Owner}
use Rattle.registry_names.specs.Names.{scope_of}
use Rattle.registry_publish.specs.Form.{FormParts}
use Rattle.registry_rules.specs.Actions.{version_of, ends_team}
use Rattle.registry_rules.specs.Changes.{all_made, release_of}
use Rattle.registry_rules.specs.Effects.{deprecation, ending, first_status, joining, membership, maintaining, new_status, withdrawal_of_all}
use Rattle.registry_rules.specs.Laws.{SpendsVersion, FreesTags, WithdrawalsSpend, WithdrawalsFreeTags, Deprecates, DeprecationsMark, GivesFirstRight, IsOwnerChange, GrantsAreGiven, GrantsAreRevoked, StatusesAreSet, MaintainersAreAdded, MaintainersAreRemoved, PublishesGiveFirstRights, SetsRole, OrganisationsAreCreated, RolesAreSet, MembersAreRemoved, UsersAreAdded, TokensAreAdded, EndsTokens, TokensAreEnded, AllTokensAreEnded, OthersTokensAreHidden, AddsVersion, SetsTags, SetsStatus, IsApart, DestroysTeam, IsTeamMemberChange, TeamsAreCreated, NewTeamsAreEmpty, TeamsAreDestroyed, TeamMembersAreAdded, TeamMembersAreRemoved, PublishesAddVersions, PublishesSetTags, PublishesSetStatuses, SetTagsName, RemovedTagsAreGone, QueriesChangeNothing, PackagesStandApart}
use Rattle.registry_rules.specs.Refusals.{state_refusal, unless_allowed}
use Rattle.registry_rules.specs.Operations.{without_team, with_tag, without_tag}
use Rattle.registry_rules.specs.State.{State, Release, developers, tokens_of, is_in_team, is_live, has_maintainer, stands}
use Rattle.registry_rules.specs.declared.request.Action.{Action}
use Rattle.registry_rules.specs.declared.request.Action.TheVariants as asked
use Rattle.registry_rules.specs.declared.request.Action.TheVariants.{UserAdd, TokenAdd, TokenRemove, TokensRemove, OrgCreate, OrgSet, OrgRemove, TeamCreate, TeamDestroy, TeamAdd, TeamRemove, Revoke, SetAccess, OwnerAdd, OwnerRemove, Publish, TagSet, TagRemove, Withdraw, WithdrawAll, Deprecate}
use Rattle.registry_rules.specs.Withdrawals.{all_tags, live_since, live_versions, others, selected, selects, tags_of}
use Rattle.registry_rules.proofs.WholeFacts.{whole_is, whole_live, whole_spent, whole_tags}
use Rattle.registry_rules.proofs.WithdrawnFacts.{among_passing, among_where_names, apart_where_others, at-freed, at-marked, deprecated_is, freed_gone, freed_latest, marked_value, withdrawal_of, withdrawn_is}
use Rattle.registry_rules.proofs.TokenFacts.{among_theirs, at-all_ended, ended_is, others_apart}
use Rattle.registry_rules.proofs.PublishedFacts.{latest_put, statuses_after, granted_first, grants_after, maintained_first, maintainers_after, status_of, after_publish, published_is}

-- keys that differ fail the test
unlike : {K : Type 0} {cmp : K → K → Ordering} {same : K → K → Bool} → IsKey cmp same → (q k : K) → k ≢ q → same q k ≡ false
unlike {same} key q k differ = by_test (same q k) refl
  where
    by_test : (b : Bool) → same q k ≡ b → same q k ≡ false
    by_test true e = absurd (differ (sym (same_true key q k e)))
    by_test false e = e

either_way : {X : Type 0} (b : Bool) (o : Option X) (x : X) → o ≡ Some x → cond b (Some x) o ≡ Some x
either_way true o x e = refl
either_way false o x e = e

-- ---- users and tokens

pub users_are_added : UsersAreAdded
users_are_added S now who u = record {
  user = put_there text_key S.access.users u tt;
  users = λ w differ. at-put_other text_key S.access.users u tt w (unlike text_key u w differ);
  rest = refl;
}

pub tokens_are_added : TokensAreAdded
tokens_are_added S now who u digest = record {
  token = at-put_same text_key S.access.tokens digest u;
  tokens = λ d differ. at-put_other text_key S.access.tokens digest u d (unlike text_key digest d differ);
  rest = refl;
}

pub tokens_are_ended : TokensAreEnded
tokens_are_ended S now who digest = record {
  token = at-erase_same text_key S.access.tokens digest;
  caller = ap (option_map User) (at-erase_same text_key S.access.tokens digest);
  tokens = λ d differ. at-erase_other text_key S.access.tokens digest d (unlike text_key digest d differ);
  rest = refl;
}

-- a token that is left names nobody else than before
names_another : (b : Bool) (old : Option Text) (u : Text) → (old ≡ Some u → b ≡ true) → option_map User (cond b None old) ≢ Some (User u)
names_another true old u theirs e = cc
names_another false None u theirs e = cc
names_another false (Some w) u theirs e = let same : w ≡ u = cc in true≢false (sym (theirs (ap (λ x. Some x) same)))

pub all_tokens_are_ended : AllTokensAreEnded
all_tokens_are_ended S now who u =
    subst (λ T. EndsTokens S T u) (sym (ended_is S (tokens_of S u))) (record {
      ended = λ digest e. at-all_ended S u digest ∙ ap (λ b. cond b None (at S.access.tokens digest)) (among_theirs S u digest e);
      caller = λ digest e. names_another (among is (tokens_of S u) digest) (at S.access.tokens digest) u (among_theirs S u digest) (ap (option_map User) (sym (at-all_ended S u digest)) ∙ e);
      tokens = λ digest differ. at-all_ended S u digest ∙ ap (λ b. cond b None (at S.access.tokens digest)) (others_apart S u digest differ);
      rest = refl;
    })

not_theirs : (o : Option Text) (u : Text) → o ≢ Some u → is_theirs o u ≡ false
not_theirs None u differ = refl
not_theirs (Some w) u differ = unlike text_key w u (λ same. differ (ap (λ x. Some x) (sym same)))

pub others_tokens_are_hidden : OthersTokensAreHidden
others_tokens_are_hidden S now u digest differ =
    ap (λ b. option_or (unless_allowed (where_found b (Ok A10))) (state_refusal S now (TokenRemove digest))) (not_theirs (at S.access.tokens digest) u differ)

-- ---- organisations

pub organisations_are_created : OrganisationsAreCreated
organisations_are_created S now who o u = let A = S.access in record {
  organisation = put_there text_key A.organisations o tt;
  owner = at-put_same pair_key A.roles (o, u) Owner;
  team = put_there pair_key A.teams (o, developers) tt;
  member = put_there triple_key A.team_members (o, (developers, u)) tt;
  organisations = λ p differ. at-put_other text_key A.organisations o tt p (unlike text_key o p differ);
  roles = λ k differ. at-put_other pair_key A.roles (o, u) Owner k (unlike pair_key _ k differ);
  teams = λ k differ. at-put_other pair_key A.teams (o, developers) tt k (unlike pair_key _ k differ);
  team_members = λ k differ. at-put_other triple_key A.team_members (o, (developers, u)) tt k (unlike triple_key _ k differ);
  rest = refl;
}

role_set : (S : State) (o u : Text) (role : Role) (old : Option Role) → at S.access.roles (o, u) ≡ old → SetsRole S (all_made S (membership o u role old)) o u role
role_set S o u role (Some r) e = record {
  role = at-put_same pair_key S.access.roles (o, u) role;
  roles = λ k differ. at-put_other pair_key S.access.roles (o, u) role k (unlike pair_key _ k differ);
  joins = λ none. absurd (true≢false (sym (ap is_some e) ∙ ap is_some none));
  stays = λ had. refl;
  team_members = λ k differ. refl;
  rest = refl;
}
role_set S o u role None e = record {
  role = at-put_same pair_key S.access.roles (o, u) role;
  roles = λ k differ. at-put_other pair_key S.access.roles (o, u) role k (unlike pair_key _ k differ);
  joins = λ none. put_there triple_key S.access.team_members (o, (developers, u)) tt;
  stays = λ had. absurd (true≢false (sym had ∙ ap is_some e));
  team_members = λ k differ. at-put_other triple_key S.access.team_members (o, (developers, u)) tt k (unlike triple_key _ k differ);
  rest = refl;
}

pub roles_are_set : RolesAreSet
roles_are_set S now who o u role = role_set S o u role (at S.access.roles (o, u)) refl

pub members_are_removed : MembersAreRemoved
members_are_removed S now who o u = let A = S.access in record {
  role = at-erase_same pair_key A.roles (o, u);
  roles = λ k differ. at-erase_other pair_key A.roles (o, u) k (unlike pair_key _ k differ);
  teams = λ t. at-keep triple_key A.team_members stays (o, (t, u)) ∙ ap (λ b. cond (not b) (at A.team_members (o, (t, u))) None) (same_self pair_key (o, u));
  team_members = λ p t w differ. at-keep triple_key A.team_members stays (p, (t, w)) ∙ ap (λ b. cond (not b) (at A.team_members (p, (t, w))) None) (unlike pair_key (o, u) (p, w) differ);
  rest = refl;
}
  where
    stays : Triple → Bool
    stays k = not (is o k.0 && is u k.1.1)

-- ---- teams

pub teams_are_created : TeamsAreCreated
teams_are_created S now who o t = record {
  team = put_there pair_key S.access.teams (o, t) tt;
  teams = λ k differ. at-put_other pair_key S.access.teams (o, t) tt k (unlike pair_key _ k differ);
  rest = refl;
}

none_left : {X : Type 0} (o : Option X) → (IsSome o → ⊥) → o ≡ None
none_left None h = refl
none_left (Some x) h = absurd (h refl)

gone : {X : Type 0} (o : Option X) → o ≡ None → IsSome o → ⊥
gone o e h = true≢false (sym h ∙ ap is_some e)

pub new_teams_are_empty : NewTeamsAreEmpty
new_teams_are_empty S now who o t sound none = record {
  members = λ u. none_left _ (λ h. gone _ none (sound.team_members o t u h).0);
  grants = λ p. none_left _ (λ h. gone _ none (sound.grants o t p h).team);
}

module _ (S : State) (o t : Text) where
  abbrev other_entries : Triple → Bool
  other_entries k = not (is o k.0 && is t k.1.0)

  dropped : {X : Type 0} (m : TripleMap X) (x : Text) → at (keep m other_entries) (o, (t, x)) ≡ None
  dropped m x = at-keep triple_key m other_entries (o, (t, x)) ∙ ap (λ b. cond (not b) (at m (o, (t, x))) None) (same_self pair_key (o, t))

  undropped : {X : Type 0} (m : TripleMap X) (p s x : Text) → ◌≢◌ {A = Pair} (p, s) (o, t) → at (keep m other_entries) (p, (s, x)) ≡ at m (p, (s, x))
  undropped m p s x differ = at-keep triple_key m other_entries (p, (s, x)) ∙ ap (λ b. cond (not b) (at m (p, (s, x))) None) (unlike pair_key (o, t) (p, s) differ)

  team_destroyed : DestroysTeam S (without_team S o t) o t
  team_destroyed = record {
    team = at-erase_same pair_key S.access.teams (o, t);
    teams = λ k differ. at-erase_other pair_key S.access.teams (o, t) k (unlike pair_key _ k differ);
    emptied = record { members = dropped S.access.team_members; grants = dropped S.access.grants };
    team_members = undropped S.access.team_members;
    grants = undropped S.access.grants;
    rest = refl;
  }

pub teams_are_destroyed : TeamsAreDestroyed
teams_are_destroyed S now who o t = team_destroyed S o t

team_member_added : (S : State) (o t u : Text) (inside : Bool) → is_in_team S o t u ≡ inside → let T = all_made S (joining o t u inside) in
    IsSome (at T.access.team_members (o, (t, u))) × IsTeamMemberChange S T o t u
team_member_added S o t u true e = (e, record { team_members = λ k differ. refl; rest = refl })
team_member_added S o t u false e =
    (put_there triple_key S.access.team_members (o, (t, u)) tt, record { team_members = λ k differ. at-put_other triple_key S.access.team_members (o, (t, u)) tt k (unlike triple_key _ k differ); rest = refl })

pub team_members_are_added : TeamMembersAreAdded
team_members_are_added S now who o t u = team_member_added S o t u (is_in_team S o t u) refl

pub team_members_are_removed : TeamMembersAreRemoved
team_members_are_removed S now who o t u =
    (at-erase_same triple_key S.access.team_members (o, (t, u)), record { team_members = λ k differ. at-erase_other triple_key S.access.team_members (o, (t, u)) k (unlike triple_key _ k differ); rest = refl })

-- ---- rights to a package

pub grants_are_given : GrantsAreGiven
grants_are_given S now who o t p grant = (
  at-put_same triple_key S.access.grants (o, (t, p)) grant,
  record { grants = λ k differ. at-put_other triple_key S.access.grants (o, (t, p)) grant k (unlike triple_key _ k differ); rest = refl },
)

pub grants_are_revoked : GrantsAreRevoked
grants_are_revoked S now who o t p = (
  at-erase_same triple_key S.access.grants (o, (t, p)),
  record { grants = λ k differ. at-erase_other triple_key S.access.grants (o, (t, p)) k (unlike triple_key _ k differ); rest = refl },
)

pub statuses_are_set : StatusesAreSet
statuses_are_set S now who p status = record {
  set = at-put_same text_key S.access.statuses p status;
  statuses = λ q differ. at-put_other text_key S.access.statuses p status q (unlike text_key p q differ);
  rest = refl;
}

maintainer_added : (S : State) (p u : Text) (already : Bool) → has_maintainer S p u ≡ already → let T = all_made S (maintaining p u already) in IsSome (at T.access.maintainers (p, u)) × IsOwnerChange S T p u
maintainer_added S p u true e = (e, record { maintainers = λ k differ. refl; rest = refl })
maintainer_added S p u false e = (
  put_there pair_key S.access.maintainers (p, u) tt,
  record { maintainers = λ k differ. at-put_other pair_key S.access.maintainers (p, u) tt k (unlike pair_key _ k differ); rest = refl },
)

pub maintainers_are_added : MaintainersAreAdded
maintainers_are_added S now who p u = maintainer_added S p u (has_maintainer S p u) refl

pub maintainers_are_removed : MaintainersAreRemoved
maintainers_are_removed S now who p u = (
  at-erase_same pair_key S.access.maintainers (p, u),
  record { maintainers = λ k differ. at-erase_other pair_key S.access.maintainers (p, u) k (unlike pair_key _ k differ); rest = refl },
)

-- ---- a publish

module _ (S : State) (now : ℕ) (who : Caller) (f : FormParts) where
  abbrev here : Bool
  here = stands S f.name latest || is f.tag latest

  -- what it leaves
  abbrev T : State
  T = after_publish S who f.name (version_of f) f.tag (release_of f now) (status_of S f) here

  version_added : AddsVersion S T now f
  version_added = record {
    version = at-put_same pair_key S.live (f.name, version_of f) (release_of f now);
    versions = λ k differ. at-put_other pair_key S.live (f.name, version_of f) (release_of f now) k (unlike pair_key _ k differ);
    spent = refl;
  }

  abbrev before : Bool → PairMap Text
  before kept = latest_put S.tags f.name (version_of f) kept

  latest_named : (stood named : Bool) → stood ≡ false → is f.tag latest ≡ named → at (put (before (stood || named)) (f.name, f.tag) (version_of f)) (f.name, latest) ≡ Some (version_of f)
  latest_named true named e h = absurd (true≢false e)
  latest_named false true e h =
      subst (λ t. at (put S.tags (f.name, f.tag) (version_of f)) (f.name, t) ≡ Some (version_of f)) (same_true text_key f.tag latest h) (at-put_same pair_key S.tags (f.name, f.tag) (version_of f))
  latest_named false false e h =
      at-put pair_key (before false) (f.name, f.tag) (version_of f) (f.name, latest)
      ∙ either_way (pair_is (f.name, f.tag) (f.name, latest)) _ _ (at-put_same pair_key S.tags (f.name, latest) (version_of f))

  latest_kept : (stood named : Bool) → stood ≡ true → at (before (stood || named)) (f.name, latest) ≡ at S.tags (f.name, latest)
  latest_kept true named e = refl
  latest_kept false named e = absurd (true≢false (sym e))

  others_kept : (kept : Bool) (k : Pair) → k ≢ (f.name, latest) → at (before kept) k ≡ at S.tags k
  others_kept true k differ = refl
  others_kept false k differ = at-put_other pair_key S.tags (f.name, latest) (version_of f) k (unlike pair_key _ k differ)

  abbrev other_tag : (k : Pair) → k ≢ (f.name, f.tag) → at T.tags k ≡ at (before here) k
  other_tag k differ = at-put_other pair_key (before here) (f.name, f.tag) (version_of f) k (unlike pair_key _ k differ)

  tags_set : SetsTags S T f
  tags_set = record {
    tag = at-put_same pair_key (before here) (f.name, f.tag) (version_of f);
    first_latest = λ none. latest_named (stands S f.name latest) (is f.tag latest) (ap is_some none) refl;
    latest_stays = λ stood differ. other_tag (f.name, latest) (λ e. differ (sym (ap (λ (k : Pair). k.1) e))) ∙ latest_kept (stands S f.name latest) (is f.tag latest) stood;
    tags = λ k differ others. other_tag k differ ∙ others_kept here k others;
  }

module _ (m : TextMap Status) (p : Text) where
  abbrev then_at : Option Status → Option Status → Option Status
  then_at asked old = at (statuses_after m p (new_status asked old p)) p

  status_asked : (asked old : Option Status) (status : Status) → asked ≡ Some status → then_at asked old ≡ Some status
  status_asked None old status e = cc
  status_asked (Some s) old status e = at-put_same text_key m p s ∙ e

  status_later : (asked old : Option Status) → at m p ≡ old → asked ≡ None → IsSome old → then_at asked old ≡ old
  status_later None None here e had = absurd (true≢false (sym had))
  status_later None (Some s) here e had = here
  status_later (Some s) old here e had = cc

  status_first : (asked old : Option Status) → asked ≡ None → old ≡ None → then_at asked old ≡ Some (first_status p)
  status_first None None e none = at-put_same text_key m p (first_status p)
  status_first None (Some s) e none = cc
  status_first (Some s) old e none = cc

  other_status : (status : Option Status) (q : Text) → is p q ≡ false → at (statuses_after m p status) q ≡ at m q
  other_status None q differ = refl
  other_status (Some s) q differ = at-put_other text_key m p s q differ

status_set : (S : State) (now : ℕ) (who : Caller) (f : FormParts) → SetsStatus S (T S now who f) f
status_set S now who f = let m = S.access.statuses in let p = f.name in record {
  asked = λ status e. status_asked m p f.access (at m p) status e;
  later = λ e had. status_later m p f.access (at m p) refl e had;
  first_scoped = λ e none scoped. status_first m p f.access (at m p) e none ∙ ap (λ b. Some (if b then Restricted else Public)) scoped;
  first_unscoped = λ e none unscoped. status_first m p f.access (at m p) e none ∙ ap (λ o. Some (if is_some o then Restricted else Public)) unscoped;
  statuses = λ q differ. other_status m p (status_of S f) q (unlike text_key p q differ);
}

-- ---- its rights

granted_later : {m : TripleMap Grant} (p : Text) (old : Option Status) → IsSome old → grants_after p old m ≡ m
granted_later p (Some s) h = refl
granted_later p None h = absurd (true≢false (sym h))

maintained_later : {m : PairMap (Unit {0})} (who : Caller) (p : Text) (old : Option Status) → IsSome old → maintainers_after who p old m ≡ m
maintained_later who p (Some s) h = refl
maintained_later who p None h = absurd (true≢false (sym h))

other_granted : (m : TripleMap Grant) (p : Text) (scope : Option Text) (o t q : Text) → (scope ≡ Some o → ◌≢◌ {A = Pair} (t, q) (developers, p)) → at (granted_first p scope m) (o, (t, q)) ≡ at m (o, (t, q))
other_granted m p None o t q differ = refl
other_granted m p (Some s) o t q differ =
    at-put_other triple_key m (s, (developers, p)) ReadWrite (o, (t, q)) (unlike triple_key (s, (developers, p)) (o, (t, q))
    (λ same. differ (ap (λ (k : Triple). Some k.0) (sym same)) (ap (λ (k : Triple). k.1) same)))

other_granted_after : (m : TripleMap Grant) (p : Text) (old : Option Status) (o t q : Text) → (scope_of p ≡ Some o → ◌≢◌ {A = Pair} (t, q) (developers, p)) → at (grants_after p old m) (o, (t, q)) ≡ at m (o, (t, q))
other_granted_after m p (Some s) o t q differ = refl
other_granted_after m p None o t q differ = other_granted m p (scope_of p) o t q differ

other_maintained : (m : PairMap (Unit {0})) (who : Caller) (p : Text) (scope : Option Text) (q u : Text) → (scope ≡ None → who ≡ User u → q ≢ p) → at (maintained_first who p scope m) (q, u) ≡ at m (q, u)
other_maintained m who p (Some o) q u differ = refl
other_maintained m Operator p None q u differ = refl
other_maintained m Anonymous p None q u differ = refl
other_maintained m (User w) p None q u differ =
    at-put_other pair_key m (p, w) tt (q, u) (unlike pair_key (p, w) (q, u) (λ same. differ refl (ap (λ (k : Pair). User k.1) (sym same)) (ap (λ (k : Pair). k.0) same)))

other_maintained_after : (m : PairMap (Unit {0})) (who : Caller) (p : Text) (old : Option Status) (q u : Text) → (scope_of p ≡ None → who ≡ User u → q ≢ p) → at (maintainers_after who p old m) (q, u) ≡ at m (q, u)
other_maintained_after m who p (Some s) q u differ = refl
other_maintained_after m who p None q u differ = other_maintained m who p (scope_of p) q u differ

first_right_given : (S : State) (now : ℕ) (who : Caller) (f : FormParts) → GivesFirstRight S (T S now who f) who f
first_right_given S now who f = let A = S.access in let p = f.name in record {
  later = λ had i. record A {
    statuses = statuses_after A.statuses p (status_of S f);
    grants = granted_later {m = A.grants} p (at A.statuses p) had i;
    maintainers = maintained_later {m = A.maintainers} who p (at A.statuses p) had i;
  };
  scoped = λ o none scoped. ap (λ x. at (grants_after p x A.grants) (o, (developers, p))) none ∙ ap (λ s. at (granted_first p s A.grants) (o, (developers, p))) scoped
      ∙ at-put_same triple_key A.grants (o, (developers, p)) ReadWrite;
  unscoped = λ u none unscoped is_user. ap (λ x. is_some (at (maintainers_after who p x A.maintainers) (p, u))) none ∙ ap (λ s. is_some (at (maintained_first who p s A.maintainers) (p, u))) unscoped
      ∙ ap (λ w. is_some (at (maintained_first w p None A.maintainers) (p, u))) is_user ∙ put_there pair_key A.maintainers (p, u) tt;
  grants = λ o t q differ. other_granted_after A.grants p (at A.statuses p) o t q differ;
  maintainers = λ q u differ. other_maintained_after A.maintainers who p (at A.statuses p) q u differ;
  rest = refl;
}

pub publishes_add_versions : PublishesAddVersions
publishes_add_versions S now who f = subst (λ T. AddsVersion S T now f) (sym (published_is S who f now)) (version_added S now who f)

pub publishes_set_tags : PublishesSetTags
publishes_set_tags S now who f = subst (λ T. SetsTags S T f) (sym (published_is S who f now)) (tags_set S now who f)

pub publishes_set_statuses : PublishesSetStatuses
publishes_set_statuses S now who f = subst (λ T. SetsStatus S T f) (sym (published_is S who f now)) (status_set S now who f)

pub publishes_give_first_rights : PublishesGiveFirstRights
publishes_give_first_rights S now who f = subst (λ T. GivesFirstRight S T who f) (sym (published_is S who f now)) (first_right_given S now who f)

-- ---- a tag

pub set_tags_name : SetTagsName
set_tags_name S now who p t v =
    (at-put_same pair_key S.tags (p, t) w, record { tags = λ k differ. at-put_other pair_key S.tags (p, t) w k (unlike pair_key _ k differ); live = refl; spent = refl; access = refl })
  where
    w : Text
    w = text_of_version v

pub removed_tags_are_gone : RemovedTagsAreGone
removed_tags_are_gone S now who p t =
    (at-erase_same pair_key S.tags (p, t), record { tags = λ k differ. at-erase_other pair_key S.tags (p, t) k (unlike pair_key _ k differ); live = refl; spent = refl; access = refl })

-- ---- a withdrawal

pub withdrawals_spend : WithdrawalsSpend
withdrawals_spend S now who p v release e =
    let w = text_of_version v in
    subst (λ (o : Option Release). SpendsVersion S (all_made S (withdrawal_of S now p w o)) now p w release) (sym e)
    (subst (λ T. SpendsVersion S T now p w release) (sym (withdrawn_is S now p w release.at (greatest (others (live_versions S p) w)) (tags_of S p w))) (record {
      gone = at-erase_same pair_key S.live (p, w);
      spent = at-put_same pair_key S.spent (p, w) _;
      live = λ k differ. at-erase_other pair_key S.live (p, w) k (unlike pair_key _ k differ);
      others = λ k differ. at-put_other pair_key S.spent (p, w) _ k (unlike pair_key _ k differ);
      access = refl;
    }))

is_here : {X : Type 0} (here b : Bool) (x y : X) → here ≡ true → b ≡ true → cond (here && b) x y ≡ x
is_here true true x y e f = refl
is_here true false x y e f = absurd (true≢false (sym f))
is_here false b x y e f = absurd (true≢false (sym e))

among_others : {X : Type 0} (here b : Bool) (x y : X) → b ≡ false → cond (here && b) x y ≡ y
among_others true true x y f = absurd (true≢false f)
among_others true false x y f = refl
among_others false b x y f = refl

tags_free : (S : State) (now : ℕ) (p w : Text) (release : Release) → FreesTags S (all_made S (withdrawal_of S now p w (Some release))) p w
tags_free S now p w release =
    let next = greatest (others (live_versions S p) w) in
    let ts = tags_of S p w in
    let self = same_self text_key p in
    subst (λ T. FreesTags S T p w) (sym (withdrawn_is S now p w release.at next ts)) (record {
      moved = λ e. at-freed S.tags p next ts p latest ∙ is_here (is p p) (among is ts latest) _ _ self (among_where_names S p w latest e) ∙ freed_latest next;
      gone = λ t differ e. at-freed S.tags p next ts p t ∙ is_here (is p p) (among is ts t) _ _ self (among_where_names S p w t e) ∙ freed_gone next t (unlike text_key t latest (λ same. differ (sym same)));
      stays = λ t differ. at-freed S.tags p next ts p t ∙ among_others (is p p) (among is ts t) _ _ (apart_where_others S p w t differ);
      tags = λ q t differ. at-freed S.tags p next ts q t ∙ none_of (is p q) (among is ts t) _ _ (unlike text_key p q differ);
    })
  where
    none_of : {X : Type 0} (here b : Bool) (x y : X) → here ≡ false → cond (here && b) x y ≡ y
    none_of true b x y e = absurd (true≢false e)
    none_of false b x y e = refl

pub withdrawals_free_tags : WithdrawalsFreeTags
withdrawals_free_tags S now who p v there = by_release (at S.live (p, text_of_version v)) there
  where
    by_release : (o : Option Release) → IsSome o → FreesTags S (all_made S (withdrawal_of S now p (text_of_version v) o)) p (text_of_version v)
    by_release None there = absurd (true≢false (sym there))
    by_release (Some release) there = tags_free S now p (text_of_version v) release

-- ---- a deprecation

pub deprecations_mark : DeprecationsMark
deprecations_mark S now who p conditions message =
    let vs = selected (live_versions S p) conditions in
    subst (λ T. Deprecates S T p conditions message) (sym (deprecated_is S p message vs)) (record {
      selected = λ v release chosen e. at-marked S.live p message vs p v
          ∙ is_here (is p p) (among is vs v) _ _ (same_self text_key p) (among_passing (selects conditions) (live_versions S p) v ∙ ap (λ b. b && among is (live_versions S p) v) chosen ∙ lives v release e)
          ∙ ap (marked_value message) e;
      unselected = λ v other. at-marked S.live p message vs p v ∙ among_others (is p p) (among is vs v) _ _ (among_passing (selects conditions) (live_versions S p) v ∙ ap (λ b. b && among is (live_versions S p) v) other);
      live = λ q v differ. at-marked S.live p message vs q v ∙ none_of (is p q) (among is vs v) _ _ (unlike text_key p q differ);
      gone = λ k e. at-marked S.live p message vs k.0 k.1 ∙ ap (λ o. cond (is p k.0 && among is vs k.1) (marked_value message o) o) e ∙ either_none (is p k.0 && among is vs k.1);
      rest = refl;
    })
  where
    lives : (v : Text) (release : Release) → at S.live (p, v) ≡ Some release → among is (live_versions S p) v ≡ true
    lives v release e = any-part text_key S.live p v ∙ ap is_some e

    none_of : {X : Type 0} (here b : Bool) (x y : X) → here ≡ false → cond (here && b) x y ≡ y
    none_of true b x y e = absurd (true≢false e)
    none_of false b x y e = refl

    either_none : (b : Bool) → cond b (marked_value message None) None ≡ None
    either_none true = refl
    either_none false = refl

-- ---- all actions

pub queries_change_nothing : QueriesChangeNothing
queries_change_nothing S now who (UserAdd u) e = absurd (true≢false e)
queries_change_nothing S now who (TokenAdd u digest) e = absurd (true≢false e)
queries_change_nothing S now who (TokenRemove digest) e = absurd (true≢false e)
queries_change_nothing S now who (TokensRemove u) e = absurd (true≢false e)
queries_change_nothing S now who (OrgCreate o u) e = absurd (true≢false e)
queries_change_nothing S now who (OrgSet o u role) e = absurd (true≢false e)
queries_change_nothing S now who (OrgRemove o u) e = absurd (true≢false e)
queries_change_nothing S now who (TeamCreate o t) e = absurd (true≢false e)
queries_change_nothing S now who (TeamDestroy o t) e = absurd (true≢false e)
queries_change_nothing S now who (TeamAdd o t u) e = absurd (true≢false e)
queries_change_nothing S now who (TeamRemove o t u) e = absurd (true≢false e)
queries_change_nothing S now who (asked.Grant o t p grant) e = absurd (true≢false e)
queries_change_nothing S now who (Revoke o t p) e = absurd (true≢false e)
queries_change_nothing S now who (SetAccess p status) e = absurd (true≢false e)
queries_change_nothing S now who (OwnerAdd p u) e = absurd (true≢false e)
queries_change_nothing S now who (OwnerRemove p u) e = absurd (true≢false e)
queries_change_nothing S now who (Publish f) e = absurd (true≢false e)
queries_change_nothing S now who (TagSet p t v) e = absurd (true≢false e)
queries_change_nothing S now who (TagRemove p t) e = absurd (true≢false e)
queries_change_nothing S now who (Withdraw p v) e = absurd (true≢false e)
queries_change_nothing S now who (WithdrawAll p) e = absurd (true≢false e)
queries_change_nothing S now who (Deprecate p selector message) e = absurd (true≢false e)
queries_change_nothing S now who _ e = refl

-- the grants on a package, but those of a team that is ended
abbrev granted_after : State → Action → Text → Text → Text → Option Grant
granted_after S what p o t = if ends_team what o t then None else at S.access.grants (o, (t, p))

same_of_itself : (S : State) (what : Action) (p : Text) → ((o t : Text) → at S.access.grants (o, (t, p)) ≡ granted_after S what p o t) → IsApart S S what p
same_of_itself S what p grants = record { live = λ v. refl; spent = λ v. refl; tags = λ t. refl; status = refl; maintainers = λ u. refl; grants = grants }

-- where nothing of the package is changed in who may do what
apart_in_access : (S : State) (A : Access) (what : Action) (p : Text) → at A.statuses p ≡ at S.access.statuses p → ((u : Text) → at A.maintainers (p, u) ≡ at S.access.maintainers (p, u))
    → ((o t : Text) → at A.grants (o, (t, p)) ≡ granted_after S what p o t) → IsApart S (record S { access = A }) what p
apart_in_access S A what p status maintainers grants = record { live = λ v. refl; spent = λ v. refl; tags = λ t. refl; status = status; maintainers = maintainers; grants = grants }

-- a key of another package is another key
elsewhere : (q p w v : Text) → is q p ≡ false → pair_is (q, w) (p, v) ≡ false
elsewhere q p w v other = ap (λ b. b && is w v) other

apart_from_tag : (S T : State) (what : Action) (p : Text) → T.live ≡ S.live → T.spent ≡ S.spent → T.access ≡ S.access → ((t : Text) → at T.tags (p, t) ≡ at S.tags (p, t))
    → ((o t : Text) → at S.access.grants (o, (t, p)) ≡ granted_after S what p o t) → IsApart S T what p
apart_from_tag S T what p live spent access tags grants = record {
  live = λ v. ap (λ m. at m (p, v)) live;
  spent = λ v. ap (λ m. at m (p, v)) spent;
  tags = tags;
  status = ap (λ a. at a.statuses p) access;
  maintainers = λ u. ap (λ a. at a.maintainers (p, u)) access;
  grants = λ o t. ap (λ a. at a.grants (o, (t, p))) access ∙ grants o t;
}

apart_from_publish : (S : State) (now : ℕ) (who : Caller) (f : FormParts) (p : Text) → is f.name p ≡ false → IsApart S (T S now who f) (Publish f) p
apart_from_publish S now who f p other = record {
  live = λ v. at-put_other pair_key S.live (f.name, version_of f) (release_of f now) (p, v) (elsewhere f.name p (version_of f) v other);
  spent = λ v. refl;
  tags = λ t. at-put_other pair_key (before S now who f (here S now who f)) (f.name, f.tag) (version_of f) (p, t) (elsewhere f.name p f.tag t other) ∙ latest_elsewhere t (here S now who f);
  status = other_status S.access.statuses f.name (status_of S f) p other;
  maintainers = λ u. other_maintained_after S.access.maintainers who f.name (at S.access.statuses f.name) p u (λ unscoped is_user same. itself same);
  grants = λ o t. other_granted_after S.access.grants f.name (at S.access.statuses f.name) o t p (λ scoped same. itself (ap (λ (k : Pair). k.1) same));
}
  where
    itself : p ≡ f.name → ⊥
    itself same = true≢false (sym (same_self text_key f.name) ∙ ap (is f.name) (sym same) ∙ other)

    latest_elsewhere : (t : Text) (kept : Bool) → at (before S now who f kept) (p, t) ≡ at S.tags (p, t)
    latest_elsewhere t true = refl
    latest_elsewhere t false = at-put_other pair_key S.tags (f.name, latest) (version_of f) (p, t) (elsewhere f.name p latest t other)

-- a key of another package in the grants is another key
granted_elsewhere : (o t q r s p : Text) → is q p ≡ false → triple_is (o, (t, q)) (r, (s, p)) ≡ false
granted_elsewhere o t q r s p other = and_right (is o r) (is t s && is q p) (and_right (is t s) (is q p) other)

apart_from_owning : (S : State) (q u : Text) (already : Bool) (p : Text) → is q p ≡ false → IsApart S (all_made S (maintaining q u already)) (OwnerAdd q u) p
apart_from_owning S q u true p other = same_of_itself S (OwnerAdd q u) p (λ o t. refl)
apart_from_owning S q u false p other = apart_in_access S _ (OwnerAdd q u) p refl (λ w. at-put_other pair_key S.access.maintainers (q, u) tt (p, w) (elsewhere q p u w other)) (λ o t. refl)

apart_from_role : (S : State) (o u : Text) (role : Role) (old : Option Role) (p : Text) → IsApart S (all_made S (membership o u role old)) (OrgSet o u role) p
apart_from_role S o u role (Some r) p = apart_in_access S _ (OrgSet o u role) p refl (λ w. refl) (λ o t. refl)
apart_from_role S o u role None p = apart_in_access S _ (OrgSet o u role) p refl (λ w. refl) (λ o t. refl)

apart_from_joining : (S : State) (o t u : Text) (inside : Bool) (p : Text) → IsApart S (all_made S (joining o t u inside)) (TeamAdd o t u) p
apart_from_joining S o t u true p = same_of_itself S (TeamAdd o t u) p (λ o t. refl)
apart_from_joining S o t u false p = apart_in_access S _ (TeamAdd o t u) p refl (λ w. refl) (λ o t. refl)

unless_ended : {X : Type 0} (b : Bool) (old : Option X) → cond (not b) old None ≡ (if b then None else old)
unless_ended true old = refl
unless_ended false old = refl

apart_from_ending : (S : State) (u : Text) (ds : List Text) (p : Text) → IsApart S (all_made S (ending ds)) (TokensRemove u) p
apart_from_ending S u ds p = subst (λ T. IsApart S T (TokensRemove u) p) (sym (ended_is S ds)) (apart_in_access S _ (TokensRemove u) p refl (λ w. refl) (λ o t. refl))

apart_from_destroying : (S : State) (o t : Text) (p : Text) → IsApart S (without_team S o t) (TeamDestroy o t) p
apart_from_destroying S o t p = record {
  live = λ v. refl;
  spent = λ v. refl;
  tags = λ t. refl;
  status = refl;
  maintainers = λ u. refl;
  grants = λ q s. at-keep triple_key S.access.grants (other_entries S o t) (q, (s, p)) ∙ unless_ended (is o q && is t s) (at S.access.grants (q, (s, p)));
}

not_here : {X : Type 0} (here b : Bool) (x y : X) → here ≡ false → cond (here && b) x y ≡ y
not_here true b x y e = absurd (true≢false e)
not_here false b x y e = refl

apart_from_withdrawal : (S : State) (now : ℕ) (q : Text) (v : VersionParts) (old : Option Release) (p : Text) → is q p ≡ false
    → IsApart S (all_made S (withdrawal_of S now q (text_of_version v) old)) (Withdraw q v) p
apart_from_withdrawal S now q v None p other = same_of_itself S (Withdraw q v) p (λ o t. refl)
apart_from_withdrawal S now q v (Some r) p other =
    let w = text_of_version v in
    let next = greatest (others (live_versions S q) w) in
    subst (λ T. IsApart S T (Withdraw q v) p) (sym (withdrawn_is S now q w r.at next (tags_of S q w))) (record {
      live = λ u. at-erase_other pair_key S.live (q, w) (p, u) (elsewhere q p w u other);
      spent = λ u. at-put_other pair_key S.spent (q, w) (record { published = r.at; withdrawn = now }) (p, u) (elsewhere q p w u other);
      tags = λ u. at-freed S.tags q next (tags_of S q w) p u ∙ not_here (is q p) (among is (tags_of S q w) u) _ _ other;
      status = refl;
      maintainers = λ u. refl;
      grants = λ o t. refl;
    })

apart_from_whole : (S : State) (now : ℕ) (q p : Text) → is q p ≡ false → IsApart S (all_made S (withdrawal_of_all now q (live_since S q) (all_tags S q))) (WithdrawAll q) p
apart_from_whole S now q p other =
    subst (λ T. IsApart S T (WithdrawAll q) p) (sym (whole_is S now q)) (record {
      live = λ u. whole_live S now q p u ∙ ap (λ b. cond b None (at S.live (p, u))) other;
      spent = λ u. whole_spent S now q p u ∙ not_here (is q p) (is_live S q u) _ _ other;
      tags = λ u. whole_tags S now q p u ∙ ap (λ b. cond b None (at S.tags (p, u))) other;
      status = refl;
      maintainers = λ u. refl;
      grants = λ o t. refl;
    })

apart_from_deprecation : (S : State) (q : Text) (selector : List (List Condition)) (message : Text) (p : Text) → is q p ≡ false
    → IsApart S (all_made S (deprecation q message (selected (live_versions S q) selector))) (Deprecate q selector message) p
apart_from_deprecation S q selector message p other =
    let vs = selected (live_versions S q) selector in
    subst (λ T. IsApart S T (Deprecate q selector message) p) (sym (deprecated_is S q message vs)) (record {
      live = λ u. at-marked S.live q message vs p u ∙ not_here (is q p) (among is vs u) _ _ other;
      spent = λ u. refl;
      tags = λ u. refl;
      status = refl;
      maintainers = λ u. refl;
      grants = λ o t. refl;
    })

pub commands_leave_other_packages : PackagesStandApart
commands_leave_other_packages S now who (UserAdd u) p other = apart_in_access S _ (UserAdd u) p refl (λ w. refl) (λ o t. refl)
commands_leave_other_packages S now who (TokenAdd u digest) p other = apart_in_access S _ (TokenAdd u digest) p refl (λ w. refl) (λ o t. refl)
commands_leave_other_packages S now who (TokenRemove digest) p other = apart_in_access S _ (TokenRemove digest) p refl (λ w. refl) (λ o t. refl)
commands_leave_other_packages S now who (TokensRemove u) p other = apart_from_ending S u (tokens_of S u) p
commands_leave_other_packages S now who (OrgCreate o u) p other = apart_in_access S _ (OrgCreate o u) p refl (λ w. refl) (λ o t. refl)
commands_leave_other_packages S now who (OrgSet o u role) p other = apart_from_role S o u role (at S.access.roles (o, u)) p
commands_leave_other_packages S now who (OrgRemove o u) p other = apart_in_access S _ (OrgRemove o u) p refl (λ w. refl) (λ o t. refl)
commands_leave_other_packages S now who (TeamCreate o t) p other = apart_in_access S _ (TeamCreate o t) p refl (λ w. refl) (λ o t. refl)
commands_leave_other_packages S now who (TeamDestroy o t) p other = apart_from_destroying S o t p
commands_leave_other_packages S now who (TeamAdd o t u) p other = apart_from_joining S o t u (is_in_team S o t u) p
commands_leave_other_packages S now who (TeamRemove o t u) p other = apart_in_access S _ (TeamRemove o t u) p refl (λ w. refl) (λ o t. refl)
commands_leave_other_packages S now who (asked.Grant o t q grant) p other =
    apart_in_access S _ (asked.Grant o t q grant) p refl (λ w. refl) (λ r s. at-put_other triple_key S.access.grants (o, (t, q)) grant (r, (s, p)) (granted_elsewhere o t q r s p other))
commands_leave_other_packages S now who (Revoke o t q) p other =
    apart_in_access S _ (Revoke o t q) p refl (λ w. refl) (λ r s. at-erase_other triple_key S.access.grants (o, (t, q)) (r, (s, p)) (granted_elsewhere o t q r s p other))
commands_leave_other_packages S now who (SetAccess q status) p other =
    apart_in_access S _ (SetAccess q status) p (at-put_other text_key S.access.statuses q status p other) (λ w. refl) (λ o t. refl)
commands_leave_other_packages S now who (OwnerAdd q u) p other = apart_from_owning S q u (has_maintainer S q u) p other
commands_leave_other_packages S now who (OwnerRemove q u) p other =
    apart_in_access S _ (OwnerRemove q u) p refl (λ w. at-erase_other pair_key S.access.maintainers (q, u) (p, w) (elsewhere q p u w other)) (λ o t. refl)
commands_leave_other_packages S now who (Publish f) p other = subst (λ T. IsApart S T (Publish f) p) (sym (published_is S who f now)) (apart_from_publish S now who f p other)
commands_leave_other_packages S now who (TagSet q t v) p other =
    apart_from_tag S (with_tag S q t (text_of_version v)) (TagSet q t v) p refl refl refl
    (λ u. at-put_other pair_key S.tags (q, t) (text_of_version v) (p, u) (elsewhere q p t u other)) (λ o s. refl)
commands_leave_other_packages S now who (TagRemove q t) p other =
    apart_from_tag S (without_tag S q t) (TagRemove q t) p refl refl refl (λ u. at-erase_other pair_key S.tags (q, t) (p, u) (elsewhere q p t u other)) (λ o s. refl)
commands_leave_other_packages S now who (Withdraw q v) p other = apart_from_withdrawal S now q v (at S.live (q, text_of_version v)) p other
commands_leave_other_packages S now who (WithdrawAll q) p other = apart_from_whole S now q p other
commands_leave_other_packages S now who (Deprecate q selector message) p other = apart_from_deprecation S q selector message p other
commands_leave_other_packages S now who _ p other = same_of_itself S _ p (λ o t. refl)
