-- Users, tokens, organisations, roles, teams, members of teams, grants and maintainers are the
-- history's.
use Rattle.std.proofs.Common.{◌≡◌, ℕ, Bool, true, false, cond, not, ◌&&◌, ◌||◌, List, [], ◌∷◌, Option, Some, None, is_some, is_none, refl, sym, ap, ◌∙◌, subst, true≢false, Ordering}
use Rattle.registry_names.specs.Keys.{IsKey, Pair}
use Rattle.registry_names.specs.Maps.{MapBy, PairMap, TripleMap, at}
use Rattle.registry_names.specs.Names.{scope_of}
use Rattle.registry_names.specs.declared.status.Status.{Status}
use Rattle.registry_names.specs.Texts.{Text, is}
use Rattle.registry_names.proofs.KeyFacts.{text_key, pair_key, triple_key, same_true}
use Rattle.registry_names.proofs.MapFacts.{at-empty, at-erase, at-keep, at-put}
use Rattle.registry_names.proofs.TextFacts.{is_true}
use Rattle.registry_access.specs.declared.caller.Caller.{Caller}
use Rattle.registry_access.specs.declared.caller.Caller.TheVariants.{Operator, User, Anonymous}
use Rattle.registry_access.specs.declared.grant.Grant.{Grant}
use Rattle.registry_access.specs.declared.grant.Grant.TheVariants.{ReadWrite}
use Rattle.registry_access.specs.declared.role.Role.{Role}
use Rattle.registry_access.specs.declared.role.Role.TheVariants.{Owner}
use Rattle.registry_rules.specs.State.{State, developers, has_maintainer}
use Rattle.registry_rules.specs.declared.request.Action.{Action}
use Rattle.registry_rules.specs.declared.request.Action.TheVariants as command
use Rattle.registry_rules.specs.declared.request.Action.TheVariants.{UserAdd, TokenAdd, TokenRemove, TokensRemove, OrgCreate, OrgSet, OrgRemove, TeamCreate, TeamDestroy, TeamAdd, TeamRemove, Revoke, OwnerAdd, OwnerRemove, Publish}
use Rattle.registry_access.specs.Policy.{is_theirs}
use Rattle.registry_rules.proofs.TokenFacts.{among_is, at-all_ended}
use Rattle.registry_rules.proofs.PublishedFacts.{granted_first, grants_after, maintained_first, maintainers_after}
use Rattle.registry_laws_history.specs.AccessReadings.{HasAccess, adds_user, user_added, gives_token, ends_token, token_user, creates, created, gives_role, removes, role, creates_team, destroys, team_exists, joins, leaves, in_team, is_of, gives_grant, ends_grant, last_grant, is_caller, makes_maintainer, ends_maintainer, maintains}
use Rattle.registry_laws_history.specs.History.{Entry, Legal, after}
use Rattle.registry_laws_history.specs.Readings.{or_before, unless_ended, was_published}
use Rattle.registry_laws_history.proofs.LeftFacts.{joined, left_by, left_is}
use Rattle.registry_laws_history.proofs.StatusFacts.{has_status}
use Rattle.registry_laws_history.proofs.VersionFacts.{put_before, put_there, removed_after}

-- ---- whether something is at a key; `b` says that the key is the one that is changed

erased_after : {X : Type 0} (b : Bool) (old : Option X) (said : Bool) → is_some old ≡ said → is_some (cond b None old) ≡ (not b && said)
erased_after true old said same = refl
erased_after false old said same = same

kept_after : {X : Type 0} (b : Bool) (old : Option X) (said : Bool) → is_some old ≡ said → is_some (cond b old None) ≡ (b && said)
kept_after true old said same = same
kept_after false old said same = refl

at-joined : {K : Type 0} {cmp : K → K → Ordering} {same : K → K → Bool} (key : IsKey cmp same) (m : MapBy cmp (Unit {0})) (there : Bool) (k q : K)
    → at (joined m there k) q ≡ cond there (at m q) (cond (same k q) (Some tt) (at m q))
at-joined key m true k q = refl
at-joined key m false k q = at-put key m k tt q

-- what was there already was at this key
joined_after : (b there : Bool) (old : Option (Unit {0})) (said : Bool) → (b ≡ true → there ≡ is_some old) → is_some old ≡ said → is_some (cond there old (cond b (Some tt) old)) ≡ (b || said)
joined_after true true old said stood same = sym (stood refl)
joined_after true false old said stood same = refl
joined_after false true old said stood same = same
joined_after false false old said stood same = same

-- `here`, `first` and `he` say that it is of this organisation, of its first team, and of this
-- user; `member` that they had a role before
member_after : (here first he member : Bool) (before : Option Role) (old : Option (Unit {0})) (said : Bool) → (here ≡ true → he ≡ true → is_some before ≡ member) → is_some old ≡ said
    → is_some (cond member old (cond (here && (first && he)) (Some tt) old)) ≡ ((here && (first && he) && is_none before) || said)
member_after true true true true None old said was same = absurd (true≢false (sym (was refl refl)))
member_after true true true false None old said was same = refl
member_after true true true true (Some r) old said was same = same
member_after true true true false (Some r) old said was same = absurd (true≢false (was refl refl))
member_after true true false true before old said was same = same
member_after true true false false before old said was same = same
member_after true false he true before old said was same = same
member_after true false he false before old said was same = same
member_after false first he true before old said was same = same
member_after false first he false before old said was same = same

dropped_after : {X : Type 0} (b : Bool) (old said : Option X) → old ≡ said → cond (not b) old None ≡ or_before None (unless_ended b said)
dropped_after true old said same = refl
dropped_after false old said same = same

-- ---- a first publish; `here` says that it is of this package, and `before` that this was
-- published

-- a further publish gives no right
gives_none : (a b here before : Bool) → (here ≡ true → before ≡ true) → (a && (b && here) && not before) ≡ false
gives_none false b here before stood = refl
gives_none true false here before stood = refl
gives_none true true false before stood = refl
gives_none true true true true stood = refl
gives_none true true true false stood = absurd (true≢false (sym (stood refl)))

gives_first : (a b here before : Bool) → (here ≡ true → before ≡ false) → (a && (b && here) && not before) ≡ (a && (b && here))
gives_first false b here before fresh = refl
gives_first true false here before fresh = refl
gives_first true true false before fresh = refl
gives_first true true true true fresh = absurd (true≢false (fresh refl))
gives_first true true true false fresh = refl

grants_first : (m : TripleMap Grant) (q o t p : Text) (scope : Option Text) (before : Bool) (said : Option Grant) → (is q p ≡ true → before ≡ false) → at m (o, (t, p)) ≡ said
    → at (granted_first q scope m) (o, (t, p)) ≡ or_before (cond (is_of o scope && (is developers t && is q p) && not before) (Some ReadWrite) None) said
grants_first m q o t p None before said fresh same = same
grants_first m q o t p (Some s) before said fresh same =
    at-put triple_key m (s, (developers, q)) ReadWrite (o, (t, p)) ∙ put_before (is s o && (is developers t && is q p)) ReadWrite _ _ same
    ∙ ap (λ b. or_before (cond b (Some ReadWrite) None) said) (sym (gives_first (is s o) (is developers t) (is q p) before fresh))

grants_published : (m : TripleMap Grant) (q o t p : Text) (old : Option Status) (before : Bool) (said : Option Grant) → (is q p ≡ true → is_some old ≡ before) → at m (o, (t, p)) ≡ said
    → at (grants_after q old m) (o, (t, p)) ≡ or_before (cond (is_of o (scope_of q) && (is developers t && is q p) && not before) (Some ReadWrite) None) said
grants_published m q o t p (Some s) before said stood same =
    same ∙ ap (λ b. or_before (cond b (Some ReadWrite) None) said) (sym (gives_none (is_of o (scope_of q)) (is developers t) (is q p) before (λ e. sym (stood e))))
grants_published m q o t p None before said stood same = grants_first m q o t p (scope_of q) before said (λ e. sym (stood e)) same

-- who is nobody's name becomes no maintainer
no_user : (here before said : Bool) → (here && false && not before || said) ≡ said
no_user true before said = refl
no_user false before said = refl

makes_first : (here he before : Bool) → (here ≡ true → before ≡ false) → (here && he && not before) ≡ (here && he)
makes_first false he before fresh = refl
makes_first true false before fresh = refl
makes_first true true true fresh = absurd (true≢false (fresh refl))
makes_first true true false fresh = refl

makes_none : (bare here he before : Bool) → (here ≡ true → before ≡ true) → (bare && (here && he) && not before) ≡ false
makes_none false here he before stood = refl
makes_none true false he before stood = refl
makes_none true true false before stood = refl
makes_none true true true true stood = refl
makes_none true true true false stood = absurd (true≢false (sym (stood refl)))

maintained_by_first : (m : PairMap (Unit {0})) (who : Caller) (q p u : Text) (scope : Option Text) (before said : Bool) → (is q p ≡ true → before ≡ false) → is_some (at m (p, u)) ≡ said
    → is_some (at (maintained_first who q scope m) (p, u)) ≡ (is_none scope && (is q p && is_caller who u) && not before || said)
maintained_by_first m who q p u (Some s) before said fresh same = same
maintained_by_first m Operator q p u None before said fresh same = same ∙ sym (no_user (is q p) before said)
maintained_by_first m Anonymous q p u None before said fresh same = same ∙ sym (no_user (is q p) before said)
maintained_by_first m (User v) q p u None before said fresh same =
    ap is_some (at-put pair_key m (q, v) tt (p, u)) ∙ put_there (is q p && is v u) tt _ _ same ∙ ap (λ b. b || said) (sym (makes_first (is q p) (is v u) before fresh))

maintained_published : (m : PairMap (Unit {0})) (who : Caller) (q p u : Text) (old : Option Status) (before said : Bool) → (is q p ≡ true → is_some old ≡ before) → is_some (at m (p, u)) ≡ said
    → is_some (at (maintainers_after who q old m) (p, u)) ≡ (is_none (scope_of q) && (is q p && is_caller who u) && not before || said)
maintained_published m who q p u (Some s) before said stood same =
    same ∙ ap (λ b. b || said) (sym (makes_none (is_none (scope_of q)) (is q p) (is_caller who u) before (λ e. sym (stood e))))
maintained_published m who q p u None before said stood same = maintained_by_first m who q p u (scope_of q) before said (λ e. sym (stood e)) same

-- ---- each map, an entry later

module _ (S : State) (now : ℕ) (who : Caller) (h : List Entry) (has : HasAccess h S.access) (published : (p : Text) → is_some (at S.access.statuses p) ≡ was_published h p) where
  users_step : (what : Action) (u : Text) → is_some (at (left_by S now who what).access.users u) ≡ (adds_user what u || user_added h u)
  users_step (UserAdd v) u = ap is_some (at-put text_key S.access.users v tt u) ∙ put_there (is v u) tt _ _ (has.users u)
  users_step what u = has.users u

  tokens_step : (what : Action) (digest : Text) → at (left_by S now who what).access.tokens digest ≡ or_before (gives_token what digest) (unless_ended (ends_token what (token_user h digest) digest) (token_user h digest))
  tokens_step (TokenAdd u d) digest = at-put text_key S.access.tokens d u digest ∙ put_before (is d digest) u _ _ (has.tokens digest)
  tokens_step (TokenRemove d) digest = at-erase text_key S.access.tokens d digest ∙ removed_after (is d digest) _ _ (has.tokens digest)
  tokens_step (TokensRemove u) digest =
      at-all_ended S u digest
      ∙ ap (λ b. cond b None (at S.access.tokens digest)) (among_is S u digest ∙ ap (λ o. is_theirs o u) (has.tokens digest))
      ∙ removed_after (is_theirs (token_user h digest) u) _ _ (has.tokens digest)
  tokens_step what digest = has.tokens digest

  organisations_step : (what : Action) (o : Text) → is_some (at (left_by S now who what).access.organisations o) ≡ (creates what o || created h o)
  organisations_step (OrgCreate q v) o = ap is_some (at-put text_key S.access.organisations q tt o) ∙ put_there (is q o) tt _ _ (has.organisations o)
  organisations_step what o = has.organisations o

  roles_step : (what : Action) (o u : Text) → at (left_by S now who what).access.roles (o, u) ≡ or_before (gives_role what o u) (unless_ended (removes what o u) (role h o u))
  roles_step (OrgCreate q v) o u = at-put pair_key S.access.roles (q, v) Owner (o, u) ∙ put_before (is q o && is v u) Owner _ _ (has.roles o u)
  roles_step (OrgSet q v r) o u = at-put pair_key S.access.roles (q, v) r (o, u) ∙ put_before (is q o && is v u) r _ _ (has.roles o u)
  roles_step (OrgRemove q v) o u = at-erase pair_key S.access.roles (q, v) (o, u) ∙ removed_after (is q o && is v u) _ _ (has.roles o u)
  roles_step what o u = has.roles o u

  teams_step : (what : Action) (o t : Text) → is_some (at (left_by S now who what).access.teams (o, t)) ≡ (creates_team what o t || (not (destroys what o t) && team_exists h o t))
  teams_step (OrgCreate q v) o t = ap is_some (at-put pair_key S.access.teams (q, developers) tt (o, t)) ∙ put_there (is q o && is developers t) tt _ _ (has.teams o t)
  teams_step (TeamCreate q s) o t = ap is_some (at-put pair_key S.access.teams (q, s) tt (o, t)) ∙ put_there (is q o && is s t) tt _ _ (has.teams o t)
  teams_step (TeamDestroy q s) o t = ap is_some (at-erase pair_key S.access.teams (q, s) (o, t)) ∙ erased_after (is q o && is s t) _ _ (has.teams o t)
  teams_step what o t = has.teams o t

  -- the role that they had before, said of the map and of the history
  had_role : (q v o u : Text) → is q o ≡ true → is v u ≡ true → is_some (role h o u) ≡ is_some (at S.access.roles (q, v))
  had_role q v o u here he = ap is_some (sym (has.roles o u)) ∙ ap (λ (k : Pair). is_some (at S.access.roles k)) (λ i. (sym (is_true q o here) i, sym (is_true v u he) i))

  members_step : (what : Action) (o t u : Text)
      → is_some (at (left_by S now who what).access.team_members (o, (t, u))) ≡ (joins what (role h o u) o t u || (not (leaves what o t u) && in_team h o t u))
  members_step (OrgCreate q v) o t u =
      ap is_some (at-put triple_key S.access.team_members (q, (developers, v)) tt (o, (t, u))) ∙ put_there (is q o && (is developers t && is v u)) tt _ _ (has.team_members o t u)
  members_step (OrgSet q v r) o t u =
      ap is_some (at-joined triple_key S.access.team_members (is_some (at S.access.roles (q, v))) (q, (developers, v)) (o, (t, u)))
      ∙ member_after (is q o) (is developers t) (is v u) _ (role h o u) _ _ (had_role q v o u) (has.team_members o t u)
  members_step (OrgRemove q v) o t u =
      ap is_some (at-keep triple_key S.access.team_members (λ k. not (is q k.0 && is v k.1.1)) (o, (t, u))) ∙ kept_after (not (is q o && is v u)) _ _ (has.team_members o t u)
  members_step (TeamDestroy q s) o t u =
      ap is_some (at-keep triple_key S.access.team_members (λ k. not (is q k.0 && is s k.1.0)) (o, (t, u))) ∙ kept_after (not (is q o && is s t)) _ _ (has.team_members o t u)
  members_step (TeamAdd q s v) o t u =
      ap is_some (at-joined triple_key S.access.team_members _ (q, (s, v)) (o, (t, u)))
      ∙ joined_after (is q o && (is s t && is v u)) _ _ _ (λ e. ap (λ k. is_some (at S.access.team_members k)) (same_true triple_key (q, (s, v)) (o, (t, u)) e)) (has.team_members o t u)
  members_step (TeamRemove q s v) o t u =
      ap is_some (at-erase triple_key S.access.team_members (q, (s, v)) (o, (t, u))) ∙ erased_after (is q o && (is s t && is v u)) _ _ (has.team_members o t u)
  members_step what o t u = has.team_members o t u

  -- whether a package has a status, said of a publish's package, is whether this one was published
  had_status : (q p : Text) → is q p ≡ true → is_some (at S.access.statuses q) ≡ was_published h p
  had_status q p here = ap (λ r. is_some (at S.access.statuses r)) (is_true q p here) ∙ published p

  grants_step : (what : Action) (o t p : Text)
      → at (left_by S now who what).access.grants (o, (t, p)) ≡ or_before (gives_grant what (was_published h p) o t p) (unless_ended (ends_grant what o t p) (last_grant h o t p))
  grants_step (command.Grant q s r g) o t p = at-put triple_key S.access.grants (q, (s, r)) g (o, (t, p)) ∙ put_before (is q o && (is s t && is r p)) g _ _ (has.grants o t p)
  grants_step (Revoke q s r) o t p = at-erase triple_key S.access.grants (q, (s, r)) (o, (t, p)) ∙ removed_after (is q o && (is s t && is r p)) _ _ (has.grants o t p)
  grants_step (TeamDestroy q s) o t p =
      at-keep triple_key S.access.grants (λ k. not (is q k.0 && is s k.1.0)) (o, (t, p)) ∙ dropped_after (is q o && is s t) _ _ (has.grants o t p)
  grants_step (Publish f) o t p = grants_published S.access.grants f.name o t p (at S.access.statuses f.name) (was_published h p) _ (had_status f.name p) (has.grants o t p)
  grants_step what o t p = has.grants o t p

  maintainers_step : (what : Action) (p u : Text)
      → is_some (at (left_by S now who what).access.maintainers (p, u)) ≡ (makes_maintainer who what (was_published h p) p u || (not (ends_maintainer what p u) && maintains h p u))
  maintainers_step (OwnerAdd q v) p u =
      ap is_some (at-joined pair_key S.access.maintainers (has_maintainer S q v) (q, v) (p, u))
      ∙ joined_after (is q p && is v u) (has_maintainer S q v) _ _ (λ e. ap (λ k. is_some (at S.access.maintainers k)) (same_true pair_key (q, v) (p, u) e)) (has.maintainers p u)
  maintainers_step (OwnerRemove q v) p u = ap is_some (at-erase pair_key S.access.maintainers (q, v) (p, u)) ∙ erased_after (is q p && is v u) _ _ (has.maintainers p u)
  maintainers_step (Publish f) p u =
      maintained_published S.access.maintainers who f.name p u (at S.access.statuses f.name) (was_published h p) _ (had_status f.name p) (has.maintainers p u)
  maintainers_step what p u = has.maintainers p u

pub has_access : (h : List Entry) → Legal h → HasAccess h (after h).access
has_access [] legal = record {
  users = λ u. ap is_some (at-empty text_key u);
  tokens = at-empty text_key;
  organisations = λ o. ap is_some (at-empty text_key o);
  roles = λ o u. at-empty pair_key (o, u);
  teams = λ o t. ap is_some (at-empty pair_key (o, t));
  team_members = λ o t u. ap is_some (at-empty triple_key (o, (t, u)));
  grants = λ o t p. at-empty triple_key (o, (t, p));
  maintainers = λ p u. ap is_some (at-empty pair_key (p, u));
}
has_access (e ∷ h) legal =
    let S = after h in
    let has = has_access h legal.3 in
    let published = has_status h legal.3 in
    subst (λ (T : State). HasAccess (e ∷ h) T.access) (sym (left_is S e.at e.who e.what)) (record {
      users = users_step S e.at e.who h has published e.what;
      tokens = tokens_step S e.at e.who h has published e.what;
      organisations = organisations_step S e.at e.who h has published e.what;
      roles = roles_step S e.at e.who h has published e.what;
      teams = teams_step S e.at e.who h has published e.what;
      team_members = members_step S e.at e.who h has published e.what;
      grants = grants_step S e.at e.who h has published e.what;
      maintainers = maintainers_step S e.at e.who h has published e.what;
    })
