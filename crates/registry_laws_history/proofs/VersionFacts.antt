-- The live versions are those ever published, each as its publish recorded it.
use Rattle.std.proofs.Common.{◌≡◌, ℕ, Bool, true, false, cond, not, ◌&&◌, ◌||◌, List, [], ◌∷◌, ◌++◌, refl, sym, ap, ap₂, ◌∙◌, subst, true≢false, Some, None, Option, is_some, option_map, if◌then◌else◌}
use Rattle.std.proofs.lemmas.List.Folds.{list_any-append}
use Rattle.registry_names.specs.Keys.{Pair, pair_is}
use Rattle.registry_names.specs.Maps.{among, at}
use Rattle.registry_names.specs.Texts.{Text, is}
use Rattle.registry_names.specs.Versions.{VersionParts, text_of_version}
use Rattle.registry_names.proofs.KeyFacts.{text_key, pair_key, same_true}
use Rattle.registry_names.proofs.MapFacts.{at-empty, at-erase, at-put}
use Rattle.registry_names.proofs.PartFacts.{any-part}
use Rattle.registry_names.proofs.TextFacts.{is_sym}
use Rattle.registry_access.specs.declared.caller.Caller.{Caller}
use Rattle.registry_rules.specs.Actions.{version_of}
use Rattle.registry_rules.specs.Changes.{release_of}
use Rattle.registry_rules.specs.Refusals.{refusal_by}
use Rattle.registry_rules.specs.State.{State, Release, Withdrawal}
use Rattle.registry_rules.specs.Withdrawals.{live_versions, selected, selects}
use Rattle.registry_rules.specs.declared.request.Action.{Action}
use Rattle.registry_rules.specs.declared.request.Action.TheVariants.{Publish, Withdraw, WithdrawAll, Deprecate}
use Rattle.registry_laws_history.specs.History.{Entry, Legal, after}
use Rattle.registry_laws_history.specs.Readings.{or_before, unless_ended, published, withdrawn, recorded, last_withdrawal, moments_if, noted, pairs_under, HasVersions, HasRecords}
use Rattle.registry_rules.proofs.AllowedFacts.{state_passed}
use Rattle.registry_laws_history.proofs.LeftFacts.{left_by, left_is, taken}
use Rattle.registry_laws_history.proofs.PublishFacts.{publish_passes, may_withdraw, at-live}
use Rattle.registry_rules.proofs.WholeFacts.{moments_at, whole_left, whole_live, whole_spent}
use Rattle.registry_rules.proofs.WithdrawnFacts.{among_passing, at-marked, marked_value}

-- something is at a key after a put
pub put_there : {X : Type 0} (b : Bool) (x : X) (old : Option X) (was : Bool) → is_some old ≡ was → is_some (cond b (Some x) old) ≡ (b || was)
put_there true x old was e = refl
put_there false x old was e = e

-- what is there is what was put, or else what was there
pub put_before : {X : Type 0} (b : Bool) (x : X) (old before : Option X) → old ≡ before → cond b (Some x) old ≡ or_before (cond b (Some x) None) before
put_before true x old before e = refl
put_before false x old before e = e

-- what is there after a removal
pub removed_after : {X : Type 0} (b : Bool) (old said : Option X) → old ≡ said → cond b None old ≡ or_before None (unless_ended b said)
removed_after true old said same = refl
removed_after false old said same = same

-- ---- which versions are there; `here` says that the version is the one that is published or
-- withdrawn

remains_published : (here live spent : Bool) (was gone : Bool) → live ≡ (was && not gone) → spent ≡ gone → (here ≡ true → spent ≡ false) → (here || live) ≡ ((here || was) && not gone)
remains_published true live spent was gone a b c = ap not (sym (c refl)) ∙ ap not b
remains_published false live spent was gone a b c = a

together_published : (here live spent was : Bool) → (live || spent) ≡ was → ((here || live) || spent) ≡ (here || was)
together_published true live spent was e = refl
together_published false live spent was e = e

apart_published : (here live spent : Bool) → (live && spent) ≡ false → (here ≡ true → spent ≡ false) → ((here || live) && spent) ≡ false
apart_published true live spent e f = f refl
apart_published false live spent e f = e

remains_withdrawn : (here live was gone : Bool) → live ≡ (was && not gone) → cond here false live ≡ (was && not (here || gone))
remains_withdrawn true live true gone e = refl
remains_withdrawn true live false gone e = refl
remains_withdrawn false live was gone e = e

together_withdrawn : (here live spent was : Bool) → (live || spent) ≡ was → (here ≡ true → live ≡ true) → (cond here false live || (here || spent)) ≡ was
together_withdrawn true live spent was e lived = ap (λ b. b || spent) (sym (lived refl)) ∙ e
together_withdrawn false live spent was e lived = e

apart_withdrawn : (here live spent : Bool) → (live && spent) ≡ false → (cond here false live && (here || spent)) ≡ false
apart_withdrawn true live spent e = refl
apart_withdrawn false live spent e = e

put_stands : {X : Type 0} (b : Bool) (x : X) (old : Option X) → is_some (cond b (Some x) old) ≡ (b || is_some old)
put_stands true x old = refl
put_stands false x old = refl

erased_stands : {X : Type 0} (b : Bool) (old : Option X) → is_some (cond b None old) ≡ cond b false (is_some old)
erased_stands true old = refl
erased_stands false old = refl

versions_taken : (now : ℕ) (who : Caller) (p : Text) (v : VersionParts) (h : List Entry) (S : State) (old : Option Release) → at S.live (p, text_of_version v) ≡ old → is_some old ≡ true
    → HasVersions h S → HasVersions (record { at = now; who = who; what = Withdraw p v } ∷ h) (taken S now p (text_of_version v) old)
versions_taken now who p v h S None stood lives has = absurd (true≢false (sym lives))
versions_taken now who p v h S (Some r) stood lives has =
    let k0 : Pair = (p, text_of_version v) in
    let gone = λ (k : Pair). ap is_some (at-erase pair_key S.live k0 k) ∙ erased_stands (pair_is k0 k) (at S.live k) in
    let spent = λ (k : Pair). ap is_some (at-put pair_key S.spent k0 (record { published = r.at; withdrawn = now }) k) ∙ put_stands (pair_is k0 k) _ (at S.spent k) in
    let lived = λ (k : Pair) (e : pair_is k0 k ≡ true). ap (λ j. is_some (at S.live j)) (sym (same_true pair_key k0 k e)) ∙ ap is_some stood in
    record {
      once = has.once;
      live = λ k. gone k ∙ remains_withdrawn (pair_is k0 k) _ (among pair_is (published h) k) (among pair_is (withdrawn h) k) (has.live k);
      spent = λ k. spent k ∙ ap (λ b. pair_is k0 k || b) (has.spent k);
      together = λ k. ap₂ (λ a b. a || b) (gone k) (spent k) ∙ together_withdrawn (pair_is k0 k) _ _ _ (has.together k) (lived k);
      apart = λ k. ap₂ (λ a b. a && b) (gone k) (spent k) ∙ apart_withdrawn (pair_is k0 k) _ _ (has.apart k);
    }

-- ---- all versions of a package are withdrawn; `here` says that the version is of this package

among_under : (ks : List Pair) (p : Text) (k : Pair) → among pair_is (pairs_under ks p) k ≡ (is p k.0 && among pair_is ks k)
among_under [] p k = none_passes (is p k.0)
  where
    none_passes : (b : Bool) → false ≡ (b && false)
    none_passes true = refl
    none_passes false = refl
among_under (j ∷ js) p k =
    by_test (is j.0 p) (pairs_under js p) ∙ ap (λ b. cond (is j.0 p) (pair_is j k || b) b) (among_under js p k)
    ∙ first_or_more (pair_is j k) (is j.0 p) (is p k.0) (among pair_is js k) (λ e. is_sym j.0 p ∙ ap (λ (i : Pair). is p i.0) (same_true pair_key j k e))
  where
    by_test : (b : Bool) (rest : List Pair) → among pair_is (if b then j ∷ rest else rest) k ≡ cond b (pair_is j k || among pair_is rest k) (among pair_is rest k)
    by_test true rest = refl
    by_test false rest = refl

    first_or_more : (this passed mine later : Bool) → (this ≡ true → passed ≡ mine) → cond passed (this || (mine && later)) (mine && later) ≡ (mine && (this || later))
    first_or_more true true true later same = refl
    first_or_more true true false later same = absurd (true≢false (same refl))
    first_or_more true false true later same = absurd (true≢false (sym (same refl)))
    first_or_more true false false later same = refl
    first_or_more false true mine later same = refl
    first_or_more false false mine later same = refl

among_more : (ks js : List Pair) (k : Pair) → among pair_is (ks ++ js) k ≡ (among pair_is ks k || among pair_is js k)
among_more ks js k = list_any-append (λ q. pair_is q k) ks js

remains_none : (here live was gone : Bool) → live ≡ (was && not gone) → cond here false live ≡ (was && not ((here && was) || gone))
remains_none true live true gone e = refl
remains_none true live false gone e = refl
remains_none false live was gone e = e

spent_all : (here live spent was gone : Bool) → (live || spent) ≡ was → spent ≡ gone → ((here && live) || spent) ≡ ((here && was) || gone)
spent_all true true spent was gone e f = ap (λ b. b || gone) e
spent_all true false true was gone e f = ap (λ b. b || gone) e
spent_all true false false was gone e f = ap₂ (λ a b. a || b) e f
spent_all false live spent was gone e f = f

together_all : (here live spent : Bool) → (cond here false live || ((here && live) || spent)) ≡ (live || spent)
together_all true live spent = refl
together_all false live spent = refl

apart_all : (here live spent : Bool) → (live && spent) ≡ false → (cond here false live && ((here && live) || spent)) ≡ false
apart_all true live spent e = refl
apart_all false live spent e = e

spent_stands : (here : Bool) (now : ℕ) (o : Option Release) (old : Option Withdrawal)
    → is_some (cond (here && is_some o) (option_map (moments_at now) (option_map (λ (r : Release). r.at) o)) old) ≡ ((here && is_some o) || is_some old)
spent_stands true now (Some r) old = refl
spent_stands true now None old = refl
spent_stands false now o old = refl

here_alike : (here : Bool) (a b : Bool) → (here ≡ true → a ≡ b) → (here && a) ≡ (here && b)
here_alike true a b same = same refl
here_alike false a b same = refl

versions_whole : (now : ℕ) (who : Caller) (p : Text) (h : List Entry) (S : State)
    → HasVersions h S → HasVersions (record { at = now; who = who; what = WithdrawAll p } ∷ h) (whole_left S now p)
versions_whole now who p h S has =
    let was : Pair → Bool = λ k. among pair_is (published h) k in
    let before : Pair → Bool = λ k. among pair_is (withdrawn h) k in
    let lives : Pair → Bool = λ k. is_some (at S.live k) in
    let stands : Pair → Bool = λ k. is_some (at S.spent k) in
    let gone = λ (k : Pair). ap is_some (whole_live S now p k.0 k.1) ∙ erased_stands (is p k.0) (at S.live k) in
    let spent = λ (k : Pair).
    ap is_some (whole_spent S now p k.0 k.1) ∙ spent_stands (is p k.0) now (at S.live (p, k.1)) (at S.spent k)
    ∙ ap (λ b. b || stands k) (here_alike (is p k.0) (is_some (at S.live (p, k.1))) (lives k) (λ e. ap (λ q. is_some (at S.live (q, k.1))) (same_true text_key p k.0 e))) in
    let all_gone = λ (k : Pair). among_more (pairs_under (published h) p) (withdrawn h) k ∙ ap (λ b. b || before k) (among_under (published h) p k) in
    record {
      once = has.once;
      live = λ k. gone k ∙ remains_none (is p k.0) (lives k) (was k) (before k) (has.live k) ∙ ap (λ b. was k && not b) (sym (all_gone k));
      spent = λ k. spent k ∙ spent_all (is p k.0) (lives k) (stands k) (was k) (before k) (has.together k) (has.spent k) ∙ sym (all_gone k);
      together = λ k. ap₂ (λ a b. a || b) (gone k) (spent k) ∙ together_all (is p k.0) (lives k) (stands k) ∙ has.together k;
      apart = λ k. ap₂ (λ a b. a && b) (gone k) (spent k) ∙ apart_all (is p k.0) (lives k) (stands k) (has.apart k);
    }

pub marked_stands : (b : Bool) (message : Text) (old : Option Release) → is_some (cond b (marked_value message old) old) ≡ is_some old
marked_stands true message (Some r) = refl
marked_stands true message None = refl
marked_stands false message old = refl

versions_step : (now : ℕ) (who : Caller) (c : Action) (h : List Entry) (S : State) → HasVersions h S → refusal_by S now who c ≡ None
    → HasVersions (record { at = now; who = who; what = c } ∷ h) (left_by S now who c)
versions_step now who (Publish f) h S has ok =
    let k0 : Pair = (f.name, version_of f) in
    let free = publish_passes S now f (state_passed S now who (Publish f) ok) in
    let live = λ (k : Pair). ap is_some (at-live S now who f k) ∙ put_stands (pair_is k0 k) (release_of f now) (at S.live k) in
    let unspent = λ (k : Pair) (e : pair_is k0 k ≡ true). ap (λ j. is_some (at S.spent j)) (sym (same_true pair_key k0 k e)) ∙ free.1 in
    record {
      once = (sym (has.together k0) ∙ ap₂ (λ a b. a || b) free.0 free.1, has.once);
      live = λ k. live k ∙ remains_published (pair_is k0 k) _ _ (among pair_is (published h) k) (among pair_is (withdrawn h) k) (has.live k) (has.spent k) (unspent k);
      spent = has.spent;
      together = λ k. ap (λ b. b || is_some (at S.spent k)) (live k) ∙ together_published (pair_is k0 k) _ _ _ (has.together k);
      apart = λ k. ap (λ b. b && is_some (at S.spent k)) (live k) ∙ apart_published (pair_is k0 k) _ _ (has.apart k) (unspent k);
    }
versions_step now who (Withdraw p v) h S has ok =
    versions_taken now who p v h S (at S.live (p, text_of_version v)) refl (may_withdraw S now who p v ok) has
versions_step now who (WithdrawAll p) h S has ok = versions_whole now who p h S has
versions_step now who (Deprecate p conditions message) h S has ok =
    let vs = selected (live_versions S p) conditions in
    let same = λ (k : Pair). ap is_some (at-marked S.live p message vs k.0 k.1) ∙ marked_stands (is p k.0 && among is vs k.1) message (at S.live k) in
    record {
      once = has.once;
      live = λ k. same k ∙ has.live k;
      spent = has.spent;
      together = λ k. ap (λ b. b || is_some (at S.spent k)) (same k) ∙ has.together k;
      apart = λ k. ap (λ b. b && is_some (at S.spent k)) (same k) ∙ has.apart k;
    }
versions_step now who _ h S has ok = record { once = has.once; live = has.live; spent = has.spent; together = has.together; apart = has.apart }

pub has_versions : (h : List Entry) → Legal h → HasVersions h (after h)
has_versions [] legal = record {
  once = tt;
  live = λ k. ap is_some (at-empty pair_key k);
  spent = λ k. ap is_some (at-empty pair_key k);
  together = λ k. ap₂ (λ (a : Option Release) (b : Option Withdrawal). is_some a || is_some b) (at-empty pair_key k) (at-empty pair_key k);
  apart = λ k. ap₂ (λ (a : Option Release) (b : Option Withdrawal). is_some a && is_some b) (at-empty pair_key k) (at-empty pair_key k);
}
has_versions (e ∷ h) legal =
    subst (HasVersions (e ∷ h)) (sym (left_is (after h) e.at e.who e.what)) (versions_step e.at e.who e.what h (after h) (has_versions h legal.3) legal.1)

-- ---- what is recorded of them

some_same : (x y : Release) → ◌≡◌ {A = Option Release} (Some x) (Some y) → x ≡ y
some_same x y e = cc

noted_after : (here chosen there : Bool) (message : Text) (old said : Option Release) → (here ≡ true → there ≡ is_some old) → old ≡ said
    → cond (here && (chosen && there)) (marked_value message old) old ≡ (if here && chosen then noted message said else said)
noted_after false chosen there message old said e same = same
noted_after true false there message old said e same = same
noted_after true true there message None said e same = ap (λ b. cond b (marked_value message None) None) (e refl) ∙ ap (noted message) same
noted_after true true there message (Some r) said e same = ap (λ b. cond b (marked_value message (Some r)) (Some r)) (e refl) ∙ ap (noted message) same

moments_after : (here : Bool) (r : Release) (now : ℕ) (old said : Option Withdrawal) (lived : Option Release) → (here ≡ true → lived ≡ Some r) → old ≡ said
    → cond here (Some (record { published = r.at; withdrawn = now })) old ≡ or_before (moments_if here now lived) said
moments_after here r now old said None lived same = nothing_here here lived
  where
    nothing_here : (b : Bool) → (b ≡ true → None ≡ Some r) → cond b (Some (record { published = r.at; withdrawn = now })) old ≡ said
    nothing_here true e = let none : None ≡ Some r = e refl in absurd cc
    nothing_here false e = same
moments_after true r now old said (Some x) lived same = let it : x ≡ r = some_same x r (lived refl) in ap (λ (y : Release). Some (record { published = y.at; withdrawn = now })) (sym it)
moments_after false r now old said (Some x) lived same = same

records_taken : (now : ℕ) (who : Caller) (p : Text) (v : VersionParts) (h : List Entry) (S : State) (old : Option Release) → at S.live (p, text_of_version v) ≡ old
    → HasRecords h S → HasRecords (record { at = now; who = who; what = Withdraw p v } ∷ h) (taken S now p (text_of_version v) old)
records_taken now who p v h S None stood has = record {
  records = λ k. untaken (pair_is (p, text_of_version v) k) (at S.live k) (recorded h k) (λ e. ap (at S.live) (sym (same_true pair_key (p, text_of_version v) k e)) ∙ stood) (has.records k);
  withdrawals = λ k. has.withdrawals k ∙ unmoved (pair_is (p, text_of_version v) k) (recorded h k) (last_withdrawal h k) (λ e. sym (has.records k) ∙ ap (at S.live) (sym (same_true pair_key (p, text_of_version v) k e)) ∙ stood);
}
  where
    untaken : (b : Bool) (old said : Option Release) → (b ≡ true → old ≡ None) → old ≡ said → old ≡ or_before None (unless_ended b said)
    untaken true old said none same = none refl
    untaken false old said none same = same

    unmoved : (b : Bool) (lived : Option Release) (said : Option Withdrawal) → (b ≡ true → lived ≡ None) → said ≡ or_before (moments_if b now lived) said
    unmoved b None said none = refl
    unmoved true (Some x) said none = let some : Some x ≡ None = none refl in absurd cc
    unmoved false (Some x) said none = refl
records_taken now who p v h S (Some r) stood has =
    let k0 : Pair = (p, text_of_version v) in
    record {
      records = λ k. at-erase pair_key S.live k0 k ∙ removed_after (pair_is k0 k) _ _ (has.records k);
      withdrawals = λ k. at-put pair_key S.spent k0 (record { published = r.at; withdrawn = now }) k
          ∙ moments_after (pair_is k0 k) r now _ _ (recorded h k) (λ e. sym (has.records k) ∙ ap (at S.live) (sym (same_true pair_key k0 k e)) ∙ stood) (has.withdrawals k);
    }

moments_whole : (here : Bool) (now : ℕ) (o said : Option Release) (old w : Option Withdrawal) → (here ≡ true → o ≡ said) → old ≡ w
    → cond (here && is_some o) (option_map (moments_at now) (option_map (λ (r : Release). r.at) o)) old ≡ or_before (moments_if here now said) w
moments_whole true now (Some r) said old w lived same = ap (λ (x : Option Release). or_before (moments_if true now x) w) (lived refl)
moments_whole true now None said old w lived same = same ∙ ap (λ (x : Option Release). or_before (moments_if true now x) w) (lived refl)
moments_whole false now o None old w lived same = same
moments_whole false now o (Some x) old w lived same = same

records_step : (now : ℕ) (who : Caller) (c : Action) (h : List Entry) (S : State) → HasRecords h S
    → HasRecords (record { at = now; who = who; what = c } ∷ h) (left_by S now who c)
records_step now who (Publish f) h S has = record {
  records = λ k. at-live S now who f k ∙ put_before (pair_is (f.name, version_of f) k) (release_of f now) _ _ (has.records k);
  withdrawals = has.withdrawals;
}
records_step now who (Withdraw p v) h S has = records_taken now who p v h S (at S.live (p, text_of_version v)) refl has
records_step now who (WithdrawAll p) h S has = record {
  records = λ k. whole_live S now p k.0 k.1 ∙ removed_after (is p k.0) _ _ (has.records k);
  withdrawals = λ k. whole_spent S now p k.0 k.1
      ∙ moments_whole (is p k.0) now (at S.live (p, k.1)) (recorded h k) (at S.spent k) (last_withdrawal h k) (λ e. ap (λ q. at S.live (q, k.1)) (same_true text_key p k.0 e) ∙ has.records k) (has.withdrawals k);
}
records_step now who (Deprecate p conditions message) h S has = record {
  records = λ k. at-marked S.live p message (selected (live_versions S p) conditions) k.0 k.1
      ∙ ap (λ b. cond (is p k.0 && b) (marked_value message (at S.live k)) (at S.live k)) (among_passing (selects conditions) (live_versions S p) k.1 ∙ ap (λ b. selects conditions k.1 && b) (any-part text_key S.live p k.1))
      ∙ noted_after (is p k.0) (selects conditions k.1) _ message _ _ (λ e. ap (λ q. is_some (at S.live (q, k.1))) (same_true text_key p k.0 e)) (has.records k);
  withdrawals = has.withdrawals;
}
records_step now who _ h S has = record { records = has.records; withdrawals = has.withdrawals }

pub has_records : (h : List Entry) → HasRecords h (after h)
has_records [] = record { records = at-empty pair_key; withdrawals = at-empty pair_key }
has_records (e ∷ h) = subst (HasRecords (e ∷ h)) (sym (left_is (after h) e.at e.who e.what)) (records_step e.at e.who e.what h (after h) (has_records h))
