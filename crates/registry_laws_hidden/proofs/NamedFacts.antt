-- A command that names a package leaves the registry without the package as it was.
use Rattle.std.proofs.Common.{◌≡◌, ℕ, Bool, true, false, cond, not, ◌&&◌, ◌||◌, refl, sym, ap, ◌∙◌, true≢false, Some, None, Option, option_map, List}
use Rattle.registry_names.specs.Greatest.{greatest}
use Rattle.registry_names.specs.Keys.{Pair, Triple}
use Rattle.registry_names.specs.Maps.{TextMap, PairMap, TripleMap, among, at, put, erase, keep}
use Rattle.registry_names.specs.Names.{scope_of}
use Rattle.registry_names.specs.Tags.{latest}
use Rattle.registry_names.specs.Texts.{Text, is}
use Rattle.registry_names.specs.Versions.{text_of_version}
use Rattle.registry_names.specs.declared.status.Status.{Status}
use Rattle.registry_names.proofs.KeyFacts.{text_key, pair_key, triple_key, same_true}
use Rattle.registry_access.specs.Hiding as access
use Rattle.registry_access.specs.declared.caller.Caller.{Caller}
use Rattle.registry_access.specs.declared.caller.Caller.TheVariants.{Operator, User, Anonymous}
use Rattle.registry_access.specs.declared.grant.Grant.{Grant}
use Rattle.registry_access.specs.declared.grant.Grant.TheVariants.{ReadWrite}
use Rattle.registry_publish.specs.Form.{FormParts}
use Rattle.registry_rules.specs.Actions.{names_package, version_of}
use Rattle.registry_rules.specs.Changes.{release_of}
use Rattle.registry_rules.specs.Effects.{step_by}
use Rattle.registry_rules.specs.State.{State, Release, developers, has_maintainer, is_live, stands}
use Rattle.registry_rules.specs.Withdrawals.{live_versions, others, selected, tags_of}
use Rattle.registry_rules.specs.declared.request.Action.{Action}
use Rattle.registry_rules.specs.declared.request.Action.TheVariants as command
use Rattle.registry_rules.specs.declared.request.Action.TheVariants.{Revoke, SetAccess, OwnerAdd, OwnerRemove, Publish, TagSet, TagRemove, Withdraw, WithdrawAll, Deprecate}
use Rattle.registry_rules.proofs.PublishedFacts.{latest_put, statuses_after, granted_first, grants_after, maintained_first, maintainers_after, status_of}
use Rattle.registry_rules.proofs.WholeFacts.{moments_at, since_when, whole_left, whole_live, whole_spent, whole_tags}
use Rattle.registry_rules.proofs.WithdrawnFacts.{at-freed, at-marked, freed_tags, freed_value, marked_all, marked_value}
use Rattle.registry_laws_history.proofs.LeftFacts.{left_by, left_is, joined, taken}
use Rattle.registry_laws_hidden.specs.Without.{of_others, state_without}
use Rattle.registry_laws_hidden.proofs.KeepFacts.{keep_alike, keep-put_other, keep-erase_other, erase-put_same}

-- the keys of other packages
abbrev pub other_pair : Text → Pair → Bool
other_pair p k = not (is k.0 p)

abbrev pub other_triple : Text → Triple → Bool
other_triple p k = not (is k.1.1 p)

-- ---- each map, without the package

module _ (p q : Text) (named : is q p ≡ true) where
  status_gone : (m : TextMap Status) (status : Status) → erase (put m q status) p ≡ erase m p
  status_gone m status = ap (λ r. erase (put m r status) p) (same_true text_key q p named) ∙ erase-put_same text_key m p status

  statuses_gone : (m : TextMap Status) (status : Option Status) → erase (statuses_after m q status) p ≡ erase m p
  statuses_gone m None = refl
  statuses_gone m (Some status) = status_gone m status

  put_gone : {X : Type 0} (m : PairMap X) (x : Text) (v : X) → of_others (put m (q, x) v) p ≡ of_others m p
  put_gone m x v = keep-put_other pair_key (other_pair p) m (q, x) v (ap not named)

  erase_gone : {X : Type 0} (m : PairMap X) (x : Text) → of_others (erase m (q, x)) p ≡ of_others m p
  erase_gone m x = keep-erase_other pair_key (other_pair p) m (q, x) (ap not named)

  grant_gone : (m : TripleMap Grant) (o t : Text) (grant : Grant) → keep (put m (o, (t, q)) grant) (other_triple p) ≡ keep m (other_triple p)
  grant_gone m o t grant = keep-put_other triple_key (other_triple p) m (o, (t, q)) grant (ap not named)

  joined_gone : (m : PairMap (Unit {0})) (there : Bool) (u : Text) → of_others (joined m there (q, u)) p ≡ of_others m p
  joined_gone m true u = refl
  joined_gone m false u = put_gone m u tt

  first_granted_gone : (m : TripleMap Grant) (scope : Option Text) → keep (granted_first q scope m) (other_triple p) ≡ keep m (other_triple p)
  first_granted_gone m None = refl
  first_granted_gone m (Some o) = grant_gone m o developers ReadWrite

  grants_gone : (m : TripleMap Grant) (old : Option Status) → keep (grants_after q old m) (other_triple p) ≡ keep m (other_triple p)
  grants_gone m (Some old) = refl
  grants_gone m None = first_granted_gone m (scope_of q)

  first_maintained_gone : (who : Caller) (m : PairMap (Unit {0})) (scope : Option Text) → of_others (maintained_first who q scope m) p ≡ of_others m p
  first_maintained_gone who m (Some o) = refl
  first_maintained_gone (User u) m None = put_gone m u tt
  first_maintained_gone Operator m None = refl
  first_maintained_gone Anonymous m None = refl

  maintainers_gone : (who : Caller) (m : PairMap (Unit {0})) (old : Option Status) → of_others (maintainers_after who q old m) p ≡ of_others m p
  maintainers_gone who m (Some old) = refl
  maintainers_gone who m None = first_maintained_gone who m (scope_of q)

  latest_gone : (m : PairMap Text) (v : Text) (kept : Bool) → of_others (latest_put m q v kept) p ≡ of_others m p
  latest_gone m v true = refl
  latest_gone m v false = put_gone m latest v

  -- a key of another package isn't of this one
  unlike : (r : Text) → other_pair p (r, r) ≡ true → (b : Bool) → is q r ≡ b → b ≡ false
  unlike r passed true e = absurd (true≢false (sym passed ∙ ap not (ap (λ s. is s p) (sym (same_true text_key q r e)) ∙ named)))
  unlike r passed false e = refl

  freed_gone : (m : PairMap Text) (next : Option Text) (ts : List Text) → of_others (freed_tags m q next ts) p ≡ of_others m p
  freed_gone m next ts = keep_alike pair_key (other_pair p) (freed_tags m q next ts) m (λ k passed.
      at-freed m q next ts k.0 k.1 ∙ ap (λ b. cond (b && among is ts k.1) (freed_value next k.1) (at m k)) (unlike k.0 passed (is q k.0) refl))

  marked_gone : (m : PairMap Release) (message : Text) (vs : List Text) → of_others (marked_all m q message vs) p ≡ of_others m p
  marked_gone m message vs = keep_alike pair_key (other_pair p) (marked_all m q message vs) m (λ k passed.
      at-marked m q message vs k.0 k.1 ∙ ap (λ b. cond (b && among is vs k.1) (marked_value message (at m k)) (at m k)) (unlike k.0 passed (is q k.0) refl))

-- ---- each command

taken_gone : (S : State) (now : ℕ) (p q v : Text) → is q p ≡ true → (old : Option Release) → state_without (taken S now q v old) p ≡ state_without S p
taken_gone S now p q v named None = refl
taken_gone S now p q v named (Some r) =
    let live = erase_gone p q named S.live v in
    let spent = put_gone p q named S.spent v (record { published = r.at; withdrawn = now }) in
    let tags = freed_gone p q named S.tags (greatest (others (live_versions S q) v)) (tags_of S q v) in
    λ i. record (state_without S p) { live = live i; spent = spent i; tags = tags i }

whole_gone : (S : State) (now : ℕ) (p q : Text) → is q p ≡ true → state_without (whole_left S now q) p ≡ state_without S p
whole_gone S now p q named =
    let T : State = whole_left S now q in
    let live = keep_alike pair_key (other_pair p) T.live S.live (λ k passed.
    whole_live S now q k.0 k.1 ∙ ap (λ b. cond b None (at S.live k)) (unlike p q named k.0 passed (is q k.0) refl)) in
    let spent = keep_alike pair_key (other_pair p) T.spent S.spent (λ k passed.
    whole_spent S now q k.0 k.1
    ∙ ap (λ b. cond (b && is_live S q k.1) (option_map (moments_at now) (since_when S now q k.1)) (at S.spent k)) (unlike p q named k.0 passed (is q k.0) refl)) in
    let tags = keep_alike pair_key (other_pair p) T.tags S.tags (λ k passed.
    whole_tags S now q k.0 k.1 ∙ ap (λ b. cond b None (at S.tags k)) (unlike p q named k.0 passed (is q k.0) refl)) in
    λ i. record (state_without S p) { live = live i; spent = spent i; tags = tags i }

published_gone : (S : State) (now : ℕ) (who : Caller) (f : FormParts) (p : Text) → is f.name p ≡ true → state_without (left_by S now who (Publish f)) p ≡ state_without S p
published_gone S now who f p named =
    let old = at S.access.statuses f.name in
    let kept = stands S f.name latest || is f.tag latest in
    let statuses = statuses_gone p f.name named S.access.statuses (status_of S f) in
    let grants = grants_gone p f.name named S.access.grants old in
    let maintainers = maintainers_gone p f.name named who S.access.maintainers old in
    let live = put_gone p f.name named S.live (version_of f) (release_of f now) in
    let tags = put_gone p f.name named (latest_put S.tags f.name (version_of f) kept) f.tag (version_of f) ∙ latest_gone p f.name named S.tags (version_of f) kept in
    λ i. record (state_without S p) { access = record (access.access_without S.access p) { statuses = statuses i; grants = grants i; maintainers = maintainers i }; live = live i; tags = tags i }

left_gone : (S : State) (now : ℕ) (who : Caller) (what : Action) (p : Text) → names_package what p ≡ true → state_without (left_by S now who what) p ≡ state_without S p
left_gone S now who (command.Grant o t q grant) p named =
    ap (λ m. record (state_without S p) { access = record (access.access_without S.access p) { grants = m } }) (grant_gone p q named S.access.grants o t grant)
left_gone S now who (Revoke o t q) p named =
    ap (λ m. record (state_without S p) { access = record (access.access_without S.access p) { grants = m } }) (keep-erase_other triple_key (other_triple p) S.access.grants (o, (t, q)) (ap not named))
left_gone S now who (SetAccess q status) p named =
    ap (λ m. record (state_without S p) { access = record (access.access_without S.access p) { statuses = m } }) (status_gone p q named S.access.statuses status)
left_gone S now who (OwnerAdd q u) p named =
    ap (λ m. record (state_without S p) { access = record (access.access_without S.access p) { maintainers = m } }) (joined_gone p q named S.access.maintainers (has_maintainer S q u) u)
left_gone S now who (OwnerRemove q u) p named =
    ap (λ m. record (state_without S p) { access = record (access.access_without S.access p) { maintainers = m } }) (erase_gone p q named S.access.maintainers u)
left_gone S now who (Publish f) p named = published_gone S now who f p named
left_gone S now who (TagSet q t v) p named = ap (λ m. record (state_without S p) { tags = m }) (put_gone p q named S.tags t (text_of_version v))
left_gone S now who (TagRemove q t) p named = ap (λ m. record (state_without S p) { tags = m }) (erase_gone p q named S.tags t)
left_gone S now who (Withdraw q v) p named = taken_gone S now p q (text_of_version v) named (at S.live (q, text_of_version v))
left_gone S now who (WithdrawAll q) p named = whole_gone S now p q named
left_gone S now who (Deprecate q selector message) p named =
    ap (λ m. record (state_without S p) { live = m }) (marked_gone p q named S.live message (selected (live_versions S q) selector))
left_gone S now who _ p named = absurd (true≢false (sym named))

pub named_leave_the_rest : (S : State) (now : ℕ) (who : Caller) (what : Action) (p : Text) → names_package what p ≡ true → state_without (step_by S now who what) p ≡ state_without S p
named_leave_the_rest S now who what p named = ap (λ T. state_without T p) (left_is S now who what) ∙ left_gone S now who what p named
