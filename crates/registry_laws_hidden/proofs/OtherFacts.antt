-- A command that doesn't name a package makes of the registry without the package what it makes of
-- the registry.
use Rattle.std.proofs.Common.{◌≡◌, ℕ, Bool, true, false, cond, not, ◌&&◌, ◌||◌, refl, sym, ap, ap₂, ◌∙◌, Some, None, Option, option_map, true≢false, List, is_some, filter}
use Rattle.registry_names.specs.Greatest.{greatest}
use Rattle.registry_names.specs.Keys.{Pair}
use Rattle.registry_names.specs.Maps.{TextMap, PairMap, TripleMap, among, at, put, erase, keep, keys, of}
use Rattle.registry_names.specs.Names.{scope_of}
use Rattle.registry_names.specs.Tags.{latest}
use Rattle.registry_names.specs.Texts.{Text, is}
use Rattle.registry_names.specs.Versions.{text_of_version}
use Rattle.registry_names.specs.declared.status.Status.{Status}
use Rattle.registry_names.proofs.KeyFacts.{text_key, pair_key, triple_key, same_true}
use Rattle.registry_names.proofs.MapFacts.{at-erase_other, at-keep, same_map}
use Rattle.registry_names.proofs.PartFacts.{same_part}
use Rattle.registry_names.proofs.TextFacts.{is_sym}
use Rattle.registry_access.specs.Hiding as access
use Rattle.registry_access.specs.declared.caller.Caller.{Caller}
use Rattle.registry_access.specs.declared.caller.Caller.TheVariants.{Operator, User, Anonymous}
use Rattle.registry_access.specs.declared.grant.Grant.{Grant}
use Rattle.registry_access.specs.declared.grant.Grant.TheVariants.{ReadWrite}
use Rattle.registry_publish.specs.Form.{FormParts}
use Rattle.registry_ranges.specs.Selectors.{Condition}
use Rattle.registry_rules.specs.Actions.{names_package, version_of}
use Rattle.registry_rules.specs.Changes.{release_of}
use Rattle.registry_rules.specs.Effects.{new_status, step_by}
use Rattle.registry_rules.specs.State.{State, Release, Withdrawal, developers, has_maintainer, is_live, stands}
use Rattle.registry_rules.specs.Withdrawals.{live_versions, others, selected, tags_of}
use Rattle.registry_rules.specs.declared.request.Action.{Action}
use Rattle.registry_rules.specs.declared.request.Action.TheVariants as command
use Rattle.registry_rules.specs.declared.request.Action.TheVariants.{TeamDestroy, Revoke, SetAccess, OwnerAdd, OwnerRemove, Publish, TagSet, TagRemove, Withdraw, WithdrawAll, Deprecate}
use Rattle.registry_rules.proofs.PublishedFacts.{access_after, latest_put, statuses_after, granted_first, grants_after, maintained_first, maintainers_after}
use Rattle.registry_rules.proofs.WholeFacts.{moments_at, since_when, whole_left, whole_live, whole_spent, whole_tags}
use Rattle.registry_rules.proofs.WithdrawnFacts.{at-freed, at-marked, freed_tags, freed_value, marked_all, marked_value}
use Rattle.registry_laws_history.proofs.LeftFacts.{left_by, left_is, joined, taken}
use Rattle.registry_laws_hidden.specs.Without.{of_others, state_without}
use Rattle.registry_laws_hidden.proofs.KeepFacts.{at-kept, keep-put, keep-erase, keep-keep, erase-put}
use Rattle.registry_laws_hidden.proofs.NamedFacts.{other_pair, other_triple}

-- ---- each map, without a package, after a change of another package

-- what was put is of another package
put_alike : {X : Type 0} (here stays : Bool) (new old : Option X) → (here ≡ true → stays ≡ true) → cond here new (cond stays old None) ≡ cond stays (cond here new old) None
put_alike true true new old kept = refl
put_alike true false new old kept = absurd (true≢false (sym (kept refl)))
put_alike false stays new old kept = refl

first_of : (a b : Bool) → (a && b) ≡ true → a ≡ true
first_of true b e = refl
first_of false b e = e

module _ (p q : Text) (other : is q p ≡ false) where
  status_put : (m : TextMap Status) (status : Status) → put (erase m p) q status ≡ erase (put m q status) p
  status_put m status = sym (erase-put text_key m p q status (is_sym p q ∙ other))

  statuses_put : (m : TextMap Status) (status : Option Status) → statuses_after (erase m p) q status ≡ erase (statuses_after m q status) p
  statuses_put m None = refl
  statuses_put m (Some status) = status_put m status

  pair_put : {X : Type 0} (m : PairMap X) (x : Text) (v : X) → put (of_others m p) (q, x) v ≡ of_others (put m (q, x) v) p
  pair_put m x v = sym (keep-put pair_key (other_pair p) m (q, x) v (ap not other))

  pair_erased : {X : Type 0} (m : PairMap X) (x : Text) → erase (of_others m p) (q, x) ≡ of_others (erase m (q, x)) p
  pair_erased m x = sym (keep-erase pair_key (other_pair p) m (q, x))

  grant_put : (m : TripleMap Grant) (o t : Text) (grant : Grant) → put (keep m (other_triple p)) (o, (t, q)) grant ≡ keep (put m (o, (t, q)) grant) (other_triple p)
  grant_put m o t grant = sym (keep-put triple_key (other_triple p) m (o, (t, q)) grant (ap not other))

  joined_alike : (m : PairMap (Unit {0})) (there : Bool) (u : Text) → joined (of_others m p) there (q, u) ≡ of_others (joined m there (q, u)) p
  joined_alike m true u = refl
  joined_alike m false u = pair_put m u tt

  first_granted : (m : TripleMap Grant) (scope : Option Text) → granted_first q scope (keep m (other_triple p)) ≡ keep (granted_first q scope m) (other_triple p)
  first_granted m None = refl
  first_granted m (Some o) = grant_put m o developers ReadWrite

  grants_put : (m : TripleMap Grant) (old : Option Status) → grants_after q old (keep m (other_triple p)) ≡ keep (grants_after q old m) (other_triple p)
  grants_put m (Some old) = refl
  grants_put m None = first_granted m (scope_of q)

  first_maintained : (who : Caller) (m : PairMap (Unit {0})) (scope : Option Text) → maintained_first who q scope (of_others m p) ≡ of_others (maintained_first who q scope m) p
  first_maintained who m (Some o) = refl
  first_maintained (User u) m None = pair_put m u tt
  first_maintained Operator m None = refl
  first_maintained Anonymous m None = refl

  maintainers_put : (who : Caller) (m : PairMap (Unit {0})) (old : Option Status) → maintainers_after who q old (of_others m p) ≡ of_others (maintainers_after who q old m) p
  maintainers_put who m (Some old) = refl
  maintainers_put who m None = first_maintained who m (scope_of q)

  latest_alike : (m : PairMap Text) (v : Text) (kept : Bool) → latest_put (of_others m p) q v kept ≡ of_others (latest_put m q v kept) p
  latest_alike m v true = refl
  latest_alike m v false = pair_put m latest v

  -- a change of the package's entries alone, which is determined by what was there
  changed_alike : {X : Type 0} (here : Bool) (stays : Bool) (f : Option X → Option X) (old : Option X) → f None ≡ None
      → cond here (f (cond stays old None)) (cond stays old None) ≡ cond stays (cond here (f old) old) None
  changed_alike true true f old none = refl
  changed_alike true false f old none = none
  changed_alike false stays f old none = refl

  -- an entry of the changed package is kept
  stays_there : (k : Pair) (b : Bool) → (is q k.0 && b) ≡ true → other_pair p k ≡ true
  stays_there k b here = ap not (ap (λ r. is r p) (sym (same_true text_key q k.0 (first_of (is q k.0) b here))) ∙ other)

  freed_alike : (m : PairMap Text) (next : Option Text) (ts : List Text) → freed_tags (of_others m p) q next ts ≡ of_others (freed_tags m q next ts) p
  freed_alike m next ts = same_map pair_key _ _ (λ k.
      at-freed (of_others m p) q next ts k.0 k.1
      ∙ ap (cond (is q k.0 && among is ts k.1) (freed_value next k.1)) (at-keep pair_key m (other_pair p) k)
      ∙ put_alike (is q k.0 && among is ts k.1) (other_pair p k) (freed_value next k.1) (at m k) (stays_there k (among is ts k.1))
      ∙ sym (at-keep pair_key (freed_tags m q next ts) (other_pair p) k ∙ ap (λ o. cond (other_pair p k) o None) (at-freed m q next ts k.0 k.1)))

  marked_alike : (m : PairMap Release) (message : Text) (vs : List Text) → marked_all (of_others m p) q message vs ≡ of_others (marked_all m q message vs) p
  marked_alike m message vs = same_map pair_key _ _ (λ k.
      at-marked (of_others m p) q message vs k.0 k.1
      ∙ ap (λ o. cond (is q k.0 && among is vs k.1) (marked_value message o) o) (at-keep pair_key m (other_pair p) k)
      ∙ changed_alike (is q k.0 && among is vs k.1) (other_pair p k) (marked_value message) (at m k) refl
      ∙ sym (at-keep pair_key (marked_all m q message vs) (other_pair p) k ∙ ap (λ o. cond (other_pair p k) o None) (at-marked m q message vs k.0 k.1)))

  -- ---- what is asked of another package

  pub at_other : {X : Type 0} (m : PairMap X) (x : Text) → at (of_others m p) (q, x) ≡ at m (q, x)
  at_other m x = at-kept pair_key (other_pair p) m (q, x) (ap not other)

  pub of_other : {X : Type 0} (m : PairMap X) → of (of_others m p) q ≡ of m q
  of_other m = same_part text_key (of_others m p) m q (at_other m)

  pub status_other : (m : TextMap Status) → at (erase m p) q ≡ at m q
  status_other m = at-erase_other text_key m p q (is_sym p q ∙ other)

-- ---- each command

-- what a publish leaves of a package that had this status, where `latest` is kept or put
abbrev published_left : State → ℕ → Caller → FormParts → Option Status → Bool → State
published_left S now who f old kept = record S {
  access = access_after S.access who f.name (new_status f.access old f.name) old;
  live = put S.live (f.name, version_of f) (release_of f now);
  tags = put (latest_put S.tags f.name (version_of f) kept) (f.name, f.tag) (version_of f);
}

published_alike : (S : State) (now : ℕ) (who : Caller) (f : FormParts) (p : Text) → is f.name p ≡ false → left_by (state_without S p) now who (Publish f) ≡ state_without (left_by S now who (Publish f)) p
published_alike S now who f p other =
    let q = f.name in
    let old = at S.access.statuses q in
    let kept = stands S q latest || is f.tag latest in
    let statuses = statuses_put p q other S.access.statuses (new_status f.access old q) in
    let grants = grants_put p q other S.access.grants old in
    let maintainers = maintainers_put p q other who S.access.maintainers old in
    let live = pair_put p q other S.live (version_of f) (release_of f now) in
    let tags = ap (λ m. put m (q, f.tag) (version_of f)) (latest_alike p q other S.tags (version_of f) kept) ∙ pair_put p q other (latest_put S.tags q (version_of f) kept) f.tag (version_of f) in
    let same : published_left (state_without S p) now who f old kept ≡ state_without (published_left S now who f old kept) p =
    λ i. record (state_without S p) { access = record (access.access_without S.access p) { statuses = statuses i; grants = grants i; maintainers = maintainers i }; live = live i; tags = tags i } in
    ap₂ (published_left (state_without S p) now who f) (status_other p q other S.access.statuses) (ap (λ o. is_some o || is f.tag latest) (at_other p q other S.tags latest)) ∙ same

taken_alike : (S : State) (now : ℕ) (p q v : Text) → is q p ≡ false → (old : Option Release) → taken (state_without S p) now q v old ≡ state_without (taken S now q v old) p
taken_alike S now p q v other None = refl
taken_alike S now p q v other (Some r) =
    let live = pair_erased p q other S.live v in
    let spent = pair_put p q other S.spent v (record { published = r.at; withdrawn = now }) in
    let next = ap (λ (es : List (Text × Release)). greatest (others (keys es) v)) (of_other p q other S.live) in
    let named = ap (λ (es : List (Text × Text)). keys (filter (λ (e : Text × Text). is e.1 v) es)) (of_other p q other S.tags) in
    let tags = ap₂ (freed_tags (of_others S.tags p) q) next named ∙ freed_alike p q other S.tags (greatest (others (live_versions S q) v)) (tags_of S q v) in
    λ i. record (state_without S p) { live = live i; spent = spent i; tags = tags i }

-- a package's entries go, and are kept or not
gone_alike : {X : Type 0} (here stays : Bool) (old : Option X) → cond here None (cond stays old None) ≡ cond stays (cond here None old) None
gone_alike true true old = refl
gone_alike true false old = refl
gone_alike false stays old = refl

whole_alike : (S : State) (now : ℕ) (p q : Text) → is q p ≡ false → whole_left (state_without S p) now q ≡ state_without (whole_left S now q) p
whole_alike S now p q other =
    let R : State = state_without S p in
    let T : State = whole_left S now q in
    let lives = λ (u : Text). at_other p q other S.live u in
    let live = same_map pair_key _ _ (λ k.
    whole_live R now q k.0 k.1 ∙ ap (λ (o : Option Release). cond (is q k.0) None o) (at-keep pair_key S.live (other_pair p) k)
    ∙ gone_alike (is q k.0) (other_pair p k) (at S.live k)
    ∙ sym (at-keep pair_key T.live (other_pair p) k ∙ ap (λ (o : Option Release). cond (other_pair p k) o None) (whole_live S now q k.0 k.1))) in
    let spent = same_map pair_key _ _ (λ k.
    whole_spent R now q k.0 k.1
    ∙ ap₂ (λ (o : Option Release) (old : Option Withdrawal). cond (is q k.0 && is_some o) (option_map (moments_at now) (option_map (λ (r : Release). r.at) o)) old) (lives k.1) (at-keep pair_key S.spent (other_pair p) k)
    ∙ put_alike (is q k.0 && is_live S q k.1) (other_pair p k) (option_map (moments_at now) (since_when S now q k.1)) (at S.spent k) (stays_there p q other k (is_live S q k.1))
    ∙ sym (at-keep pair_key T.spent (other_pair p) k ∙ ap (λ (o : Option Withdrawal). cond (other_pair p k) o None) (whole_spent S now q k.0 k.1))) in
    let tags = same_map pair_key _ _ (λ k.
    whole_tags R now q k.0 k.1 ∙ ap (λ (o : Option Text). cond (is q k.0) None o) (at-keep pair_key S.tags (other_pair p) k)
    ∙ gone_alike (is q k.0) (other_pair p k) (at S.tags k)
    ∙ sym (at-keep pair_key T.tags (other_pair p) k ∙ ap (λ (o : Option Text). cond (other_pair p k) o None) (whole_tags S now q k.0 k.1))) in
    λ i. record R { live = live i; spent = spent i; tags = tags i }

deprecated_alike : (S : State) (p q message : Text) (selector : List (List Condition)) → is q p ≡ false
    → marked_all (of_others S.live p) q message (selected (live_versions (state_without S p) q) selector) ≡ of_others (marked_all S.live q message (selected (live_versions S q) selector)) p
deprecated_alike S p q message selector other =
    ap (λ (es : List (Text × Release)). marked_all (of_others S.live p) q message (selected (keys es) selector)) (of_other p q other S.live)
    ∙ marked_alike p q other S.live message (selected (live_versions S q) selector)

left_alike : (S : State) (now : ℕ) (who : Caller) (what : Action) (p : Text) → names_package what p ≡ false → left_by (state_without S p) now who what ≡ state_without (left_by S now who what) p
left_alike S now who (TeamDestroy o t) p other =
    ap (λ m. record (left_by (state_without S p) now who (TeamDestroy o t)) { access = record (left_by (state_without S p) now who (TeamDestroy o t)).access { grants = m } })
    (sym (keep-keep triple_key (other_triple p) S.access.grants (λ k. not (is o k.0 && is t k.1.0))))
left_alike S now who (command.Grant o t q grant) p other =
    ap (λ m. record (state_without S p) { access = record (access.access_without S.access p) { grants = m } }) (grant_put p q other S.access.grants o t grant)
left_alike S now who (Revoke o t q) p other =
    ap (λ m. record (state_without S p) { access = record (access.access_without S.access p) { grants = m } }) (sym (keep-erase triple_key (other_triple p) S.access.grants (o, (t, q))))
left_alike S now who (SetAccess q status) p other =
    ap (λ m. record (state_without S p) { access = record (access.access_without S.access p) { statuses = m } }) (status_put p q other S.access.statuses status)
left_alike S now who (OwnerAdd q u) p other =
    ap (λ m. record (state_without S p) { access = record (access.access_without S.access p) { maintainers = m } })
    (ap (λ o. joined (of_others S.access.maintainers p) (is_some o) (q, u)) (at_other p q other S.access.maintainers u) ∙ joined_alike p q other S.access.maintainers (has_maintainer S q u) u)
left_alike S now who (OwnerRemove q u) p other =
    ap (λ m. record (state_without S p) { access = record (access.access_without S.access p) { maintainers = m } }) (pair_erased p q other S.access.maintainers u)
left_alike S now who (Publish f) p other = published_alike S now who f p other
left_alike S now who (TagSet q t v) p other = ap (λ m. record (state_without S p) { tags = m }) (pair_put p q other S.tags t (text_of_version v))
left_alike S now who (TagRemove q t) p other = ap (λ m. record (state_without S p) { tags = m }) (pair_erased p q other S.tags t)
left_alike S now who (Withdraw q v) p other =
    ap (taken (state_without S p) now q (text_of_version v)) (at_other p q other S.live (text_of_version v)) ∙ taken_alike S now p q (text_of_version v) other (at S.live (q, text_of_version v))
left_alike S now who (WithdrawAll q) p other = whole_alike S now p q other
left_alike S now who (Deprecate q selector message) p other = ap (λ m. record (state_without S p) { live = m }) (deprecated_alike S p q message selector other)
left_alike S now who _ p other = refl

pub others_make_the_same : (S : State) (now : ℕ) (who : Caller) (what : Action) (p : Text) → names_package what p ≡ false → step_by (state_without S p) now who what ≡ state_without (step_by S now who what) p
others_make_the_same S now who what p other =
    left_is (state_without S p) now who what ∙ left_alike S now who what p other ∙ sym (ap (λ T. state_without T p) (left_is S now who what))
