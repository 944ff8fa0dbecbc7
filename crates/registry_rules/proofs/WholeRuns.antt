-- The withdrawal of all versions of a package is the run of the withdrawals of its live versions,
-- and is refused as one of them is.
use Rattle.std.proofs.Common.{◌≡◌, ◌≢◌, ℕ, ◌≤◌, Bool, true, false, cond, not, ◌&&◌, ◌||◌, All, List, [], ◌∷◌, ◌++◌, map, is_some, Option, Some, None, option_map, refl, sym, ap, ap₂, ◌∙◌, subst, true≢false, Ordering, Less, Equal, Greater, is_lt, is_eq}
use Rattle.std.proofs.lemmas.Bool.{and_parts}
use Rattle.std.proofs.lemmas.List.Elements.{All-cons, All-head, All-nil, All-tail}
use Rattle.std.proofs.lemmas.List.Folds.{list_any-append}
use Rattle.std.specs.FinMap.Entries.{below_all}
use Rattle.std.specs.List.{list_any}
use Rattle.std.specs.Option.{option_or, option_to_list}
use Rattle.std.specs.Prelude.{IsSome, IsTrue}
use Rattle.registry_names.specs.Keys.{Pair, pair_is}
use Rattle.registry_names.specs.Maps.{among, at, keys, of, rises}
use Rattle.registry_names.specs.Moments.{last_second}
use Rattle.registry_names.specs.Precedence.{version_in}
use Rattle.registry_names.specs.Texts.{Text, is, text_cmp}
use Rattle.registry_names.specs.Versions.{IsVersionOf, VersionParts, text_of_version}
use Rattle.registry_names.specs.declared.refusal.Refusal.{Refusal}
use Rattle.registry_names.specs.declared.refusal.Refusal.TheVariants.{NotFound, TooLate, Depended}
use Rattle.registry_names.proofs.KeyFacts.{text_key, pair_key, same_true, same_self}
use Rattle.registry_names.proofs.MapFacts.{same_map}
use Rattle.registry_names.proofs.PartFacts.{any-part, part_found, part_rises}
use Rattle.registry_names.proofs.PrecedenceFacts.{version_reads}
use Rattle.registry_names.proofs.TextFacts.{is_same, is_sym, is_tie, is_true}
use Rattle.registry_access.specs.Policy.{may_write}
use Rattle.registry_access.specs.Positions.{position_in}
use Rattle.registry_access.specs.declared.caller.Caller.{Caller}
use Rattle.registry_ranges.proofs.RangeFacts.{list_any-map}
use Rattle.registry_rules.specs.Effects.{step_by}
use Rattle.registry_rules.specs.Kept.{IsKept}
use Rattle.registry_rules.specs.Laws.{AreAccepted, AreTheLive, IsOnce, IsRefusedAsOne, LiveVersionsAreTheLive, SpendsVersion, WithdrawalsOfAllAreRefusedAsOne, WithdrawalsOfAllAreRuns, WithdrawalsOfAllSpend, WithdrawsAll, all_withdrawn}
use Rattle.registry_rules.specs.Refusals.{refusal_by, refuse, state_refusal, unless_allowed, withdraw_refusal, withdraw_all_refusal}
use Rattle.registry_rules.specs.State.{State, Release, Withdrawal, has_live, is_empty, is_live}
use Rattle.registry_rules.specs.Withdrawals.{is_any_depended, is_depended, is_too_old, live_since, live_versions, versions_in}
use Rattle.registry_rules.specs.declared.request.Action.TheVariants.{Withdraw, WithdrawAll}
use Rattle.registry_rules.proofs.AllowedFacts.{policy_passed, state_passed}
use Rattle.registry_rules.proofs.DependentFacts.{needed_have_dependents}
use Rattle.registry_rules.proofs.LawFacts.{withdrawals_free_tags, withdrawals_spend}
use Rattle.registry_rules.proofs.OtherFacts.{any_of, of_any, unlike}
use Rattle.registry_rules.proofs.WholeFacts.{gone_joined, here_or, moments_at, since_when, whole_is, whole_left, whole_live, whole_spent, whole_tags}
use Rattle.registry_rules.proofs.WithdrawnKept.{withdrawal_kept}

-- ---- states

state_is : (S T : State) → S.access ≡ T.access → S.live ≡ T.live → S.spent ≡ T.spent → S.tags ≡ T.tags → S ≡ T
state_is S T a l s t =
    ap (λ x. record S { access = x }) a ∙ ap (λ x. record S { access = T.access; live = x }) l ∙ ap (λ x. record S { access = T.access; live = T.live; spent = x }) s
    ∙ ap (λ x. record T { tags = x }) t

-- another version of the package
other_key : (p v w : Text) → is v w ≡ false → ◌≢◌ {A = Pair} (p, w) (p, v)
other_key p v w e same = true≢false (sym (is_same v w (sym (ap (λ (k : Pair). k.1) same))) ∙ e)

some_same : {X : Type 0} (x y : X) → ◌≡◌ {A = Option X} (Some x) (Some y) → x ≡ y
some_same x y e = cc

-- ---- the versions that texts spell

module _ (test : VersionParts → Bool) where
  or_right : (a b : Bool) → b ≡ true → (a || b) ≡ true
  or_right true b e = refl
  or_right false b e = e

  first_passes : (s t : Text) (v : VersionParts) → version_in t ≡ Some v → test v ≡ true → s ≡ t → list_any test (option_to_list (version_in s)) ≡ true
  first_passes s t v reads passed same = ap (λ o. list_any test (option_to_list o)) (ap version_in same ∙ reads) ∙ ap (λ b. b || false) passed

  first_or_more : (s t : Text) (v : VersionParts) (rest more : Bool) → version_in t ≡ Some v → test v ≡ true → (rest ≡ true → more ≡ true) → (b : Bool) → is s t ≡ b → (b || rest) ≡ true
      → (list_any test (option_to_list (version_in s)) || more) ≡ true
  first_or_more s t v rest more reads passed later true same h = ap (λ b. b || more) (first_passes s t v reads passed (is_true s t same))
  first_or_more s t v rest more reads passed later false same h = or_right (list_any test (option_to_list (version_in s))) more (later h)

  any_spelled : (ts : List Text) (t : Text) (v : VersionParts) → version_in t ≡ Some v → among is ts t ≡ true → test v ≡ true → list_any test (versions_in ts) ≡ true
  any_spelled [] t v reads here passed = absurd (true≢false (sym here))
  any_spelled (s ∷ ss) t v reads here passed =
      list_any-append test (option_to_list (version_in s)) (versions_in ss)
      ∙ first_or_more s t v (among is ss t) (list_any test (versions_in ss)) reads passed (λ h. any_spelled ss t v reads h passed) (is s t) refl here

  -- one of the texts spells a version that passes
  record Spelled (ts : List Text) : Type 0 where
    pub text : Text
    pub version : VersionParts
    pub member : among is ts text ≡ true
    pub spells : version_in text ≡ Some version
    pub passed : test version ≡ true

  more_spelled : (s : Text) (ss : List Text) → Spelled ss → Spelled (s ∷ ss)
  more_spelled s ss found = record { text = found.text; version = found.version; member = or_member (is s found.text) found.member; spells = found.spells; passed = found.passed }
    where
      or_member : (b : Bool) → among is ss found.text ≡ true → (b || among is ss found.text) ≡ true
      or_member true e = refl
      or_member false e = e

  first_spelled : (s : Text) (ss : List Text) (v : VersionParts) → version_in s ≡ Some v → test v ≡ true → Spelled (s ∷ ss)
  first_spelled s ss v reads passed = record { text = s; version = v; member = ap (λ b. b || among is ss s) (same_self text_key s); spells = reads; passed = passed }

  by_passing : (s : Text) (ss : List Text) (v : VersionParts) (more : Bool) → version_in s ≡ Some v → (more ≡ true → Spelled ss) → (b : Bool) → test v ≡ b → ((b || false) || more) ≡ true → Spelled (s ∷ ss)
  by_passing s ss v more reads later true passed e = first_spelled s ss v reads passed
  by_passing s ss v more reads later false passed e = more_spelled s ss (later e)

  by_version : (s : Text) (ss : List Text) (more : Bool) → (more ≡ true → Spelled ss) → (o : Option VersionParts) → version_in s ≡ o → (list_any test (option_to_list o) || more) ≡ true → Spelled (s ∷ ss)
  by_version s ss more later None reads e = more_spelled s ss (later e)
  by_version s ss more later (Some v) reads e = by_passing s ss v more reads later (test v) refl e

  spelled_any : (ts : List Text) → list_any test (versions_in ts) ≡ true → Spelled ts
  spelled_any [] h = absurd (true≢false (sym h))
  spelled_any (s ∷ ss) h =
      by_version s ss (list_any test (versions_in ss)) (λ e. spelled_any ss e) (version_in s) refl (sym (list_any-append test (option_to_list (version_in s)) (versions_in ss)) ∙ h)

-- ---- the live versions

-- no text is below itself, and so none among those above it
none_above : {X : Type 0} (k : Text) (es : List (Text × X)) → below_all text_cmp k es ≡ true → among is (keys es) k ≡ false
none_above k [] low = refl
none_above k (e ∷ es) low =
    let both = and_parts (is_lt (text_cmp k e.0)) (below_all text_cmp k es) low in
    ap₂ (λ a b. a || b) (is_sym e.0 k ∙ is_tie k e.0 ∙ untied (text_cmp k e.0) both.0) (none_above k es both.1)
  where
    untied : (o : Ordering) → is_lt o ≡ true → is_eq o ≡ false
    untied Less e = refl
    untied Equal e = sym e
    untied Greater e = refl

once_rising : {X : Type 0} (es : List (Text × X)) → rises text_cmp es ≡ true → IsOnce (keys es)
once_rising [] up = tt
once_rising (e ∷ es) up = let both = and_parts (below_all text_cmp e.0 es) (rises text_cmp es) up in (none_above e.0 es both.0, once_rising es both.1)

module _ (S : State) (p : Text) (kept : IsKept S) where
  abbrev Lives : Text × Release → Type 0
  Lives e = at S.live (p, e.0) ≡ Some e.1

  abbrev InForm : VersionParts → Type 0
  InForm v = IsVersionOf (text_of_version v) v

  -- what the text of a live version spells has this text
  spelled_as : (e : Text × Release) → Lives e → (v : VersionParts) × (version_in e.0 ≡ Some v) × InForm v × (text_of_version v ≡ e.0)
  spelled_as e lives =
      let was = kept.live p e.0 e.1 lives in
      (was.version, version_reads e.0 was.version was.is_version, subst (λ t. IsVersionOf t was.version) was.is_version.0 was.is_version, sym was.is_version.0)

  texts_back : (es : List (Text × Release)) → All Lives es → map text_of_version (versions_in (keys es)) ≡ keys es
  texts_back [] all = refl
  texts_back (e ∷ es) all =
      let v = spelled_as e (All-head Lives e es all) in
      ap (λ o. map text_of_version (option_to_list o ++ versions_in (keys es))) v.1 ∙ ap₂ (λ t ts. t ∷ ts) v.3 (texts_back es (All-tail Lives e es all))

  all_in_form : (es : List (Text × Release)) → All Lives es → All InForm (versions_in (keys es))
  all_in_form [] all = All-nil InForm
  all_in_form (e ∷ es) all =
      let v = spelled_as e (All-head Lives e es all) in
      subst (λ o. All InForm (option_to_list o ++ versions_in (keys es))) (sym v.1) (All-cons InForm v.0 (versions_in (keys es)) v.2 (all_in_form es (All-tail Lives e es all)))

  pub are_the_live : AreTheLive S p (versions_in (live_versions S p))
  are_the_live =
      let texts = texts_back (of S.live p) (part_found text_key S.live p) in
      record {
        form = all_in_form (of S.live p) (part_found text_key S.live p);
        once = subst IsOnce (sym texts) (once_rising (of S.live p) (part_rises text_cmp S.live p));
        live = λ v. sym (any-part text_key S.live p v) ∙ ap (λ ts. among is ts v) (sym texts);
      }

pub live_versions_are_the_live : LiveVersionsAreTheLive
live_versions_are_the_live S p kept = are_the_live S p kept

-- ---- where the whole isn't refused

module _ (S : State) (now : ℕ) (p : Text) where
  -- where it isn't refused, no live version is too old or needed
  young_all : (u : Text) (r : Release) → at S.live (p, u) ≡ Some r → list_any (λ (e : Text × ℕ). is_too_old now e.1) (live_since S p) ≡ false → is_too_old now r.at ≡ false
  young_all u r lives none = by_test (is_too_old now r.at) refl
    where
      by_test : (b : Bool) → is_too_old now r.at ≡ b → is_too_old now r.at ≡ false
      by_test true old =
          absurd (true≢false (sym (list_any-map (λ (e : Text × ℕ). is_too_old now e.1) (λ (e : Text × Release). (e.0, e.1.at)) (of S.live p)
          ∙ of_any S.live p (λ (e : Text × Release). is_too_old now e.1.at) u r lives old) ∙ none))
      by_test false old = old

  unneeded_all : (v : VersionParts) → IsVersionOf (text_of_version v) v → is_live S p (text_of_version v) ≡ true → is_any_depended S p ≡ false → is_depended S p v ≡ false
  unneeded_all v form lives none = by_test (is_depended S p v) refl
    where
      by_test : (b : Bool) → is_depended S p v ≡ b → is_depended S p v ≡ false
      by_test true needed =
          absurd (true≢false (sym (any_spelled (is_depended S p) (live_versions S p) (text_of_version v) v (version_reads (text_of_version v) v form) (any-part text_key S.live p (text_of_version v) ∙ lives) needed) ∙ none))
      by_test false needed = needed

  -- what nothing refuses of the whole
  passed_all : (live : List (Text × ℕ)) (depended : Bool) → withdraw_all_refusal now live depended ≡ None → (list_any (λ (e : Text × ℕ). is_too_old now e.1) live ≡ false) × (depended ≡ false)
  passed_all live depended h = by_tests (is_empty live) (list_any (λ (e : Text × ℕ). is_too_old now e.1) live) depended h
    where
      by_tests : (a b c : Bool) → refuse a NotFound (refuse b TooLate (refuse c Depended None)) ≡ None → (b ≡ false) × (c ≡ false)
      by_tests true b c e = cc
      by_tests false true c e = cc
      by_tests false false true e = cc
      by_tests false false false e = (refl, refl)

-- ---- a withdrawal of one version after others

module _ (now : ℕ) (who : Caller) (p : Text) (moment : now ≤ last_second) where
  -- the version lives, and nothing conflicts with its withdrawal
  record MayGo (S : State) (v : VersionParts) : Type 0 where
    pub form : IsVersionOf (text_of_version v) v
    pub release : Release
    pub lives : at S.live (p, text_of_version v) ≡ Some release
    pub young : is_too_old now release.at ≡ false
    pub unneeded : is_depended S p v ≡ false

  -- the policy allows it
  abbrev Allows : State → Type 0
  Allows S = unless_allowed (may_write who (position_in S.access who p)) ≡ None

  goes : (S : State) (v : VersionParts) → Allows S → MayGo S v → refusal_by S now who (Withdraw p v) ≡ None
  goes S v policy may =
      ap₂ option_or policy (ap (λ (o : Option Release). withdraw_refusal now (option_map (λ (r : Release). r.at) o) (is_depended S p v)) may.lives
      ∙ ap₂ (λ a b. refuse a TooLate (refuse b Depended None)) may.young may.unneeded)

  module _ (S : State) (v : VersionParts) (may : MayGo S v) (kept : IsKept S) where
    abbrev left : State
    left = step_by S now who (Withdraw p v)

    abbrev named : Text
    named = text_of_version v

    spends : SpendsVersion S left now p named may.release
    spends = withdrawals_spend S now who p v may.release may.lives

    left_kept : IsKept left
    left_kept = withdrawal_kept S now p v (at S.live (p, named)) refl moment (kept.live p named may.release may.lives).name may.form kept

    by_key : {X : Type 0} (P : Pair → X → Type 0) (x y : X) (k : Pair) → P (p, named) x → (k ≢ (p, named) → P k y) → (b : Bool) → pair_is (p, named) k ≡ b → P k (cond b x y)
    by_key P x y k here other true e = subst (λ j. P j x) (same_true pair_key (p, named) k e) here
    by_key P x y k here other false e = other (λ same. true≢false (sym (ap (pair_is (p, named)) same ∙ same_self pair_key (p, named)) ∙ e))

    live_left : (q u : Text) → at left.live (q, u) ≡ cond (is p q && is named u) None (at S.live (q, u))
    live_left q u = by_key (λ k o. at left.live k ≡ o) None (at S.live (q, u)) (q, u) spends.gone (spends.live (q, u)) (pair_is (p, named) (q, u)) refl

    spent_left : (q u : Text) → at left.spent (q, u) ≡ cond (is p q && is named u) (Some (moments_at now may.release.at)) (at S.spent (q, u))
    spent_left q u = by_key (λ k o. at left.spent k ≡ o) (Some (moments_at now may.release.at)) (at S.spent (q, u)) (q, u) spends.spent (spends.others (q, u)) (pair_is (p, named) (q, u)) refl

    tags_left : (q t : Text) → is p q ≡ false → at left.tags (q, t) ≡ at S.tags (q, t)
    tags_left q t e = (withdrawals_free_tags S now who p v (ap is_some may.lives)).tags q t (λ same. true≢false (sym (is_same p q (sym same)) ∙ e))

    -- what needs another version is as before
    unneeded_left : (w : VersionParts) → is_depended S p w ≡ false → is_depended left p w ≡ false
    unneeded_left w none = by_test (is_depended left p w) refl
      where
        needed_before : is_depended left p w ≡ true → is_depended S p w ≡ true
        needed_before h =
            let found = (needed_have_dependents left p w).0 h in
            let d = found.2 in
            (needed_have_dependents S p w).1
            (found.0, found.1, record { other = d.other; lives = sym (spends.live found.0 (λ same. d.other (ap (λ (k : Pair). k.0) same))) ∙ d.lives; needs = d.needs })

        by_test : (b : Bool) → is_depended left p w ≡ b → is_depended left p w ≡ false
        by_test true h = absurd (true≢false (sym (needed_before h) ∙ none))
        by_test false h = h

    others_may : (w : VersionParts) → is named (text_of_version w) ≡ false → MayGo S w → MayGo left w
    others_may w apart m = record {
      form = m.form;
      release = m.release;
      lives = spends.live (p, text_of_version w) (other_key p named (text_of_version w) apart) ∙ m.lives;
      young = m.young;
      unneeded = unneeded_left w m.unneeded;
    }

    all_may : (ws : List VersionParts) → among is (map text_of_version ws) named ≡ false → All (MayGo S) ws → All (MayGo left) ws
    all_may [] apart all = All-nil (MayGo left)
    all_may (w ∷ ws) apart all =
        let parts = neither (is (text_of_version w) named) (among is (map text_of_version ws) named) apart in
        All-cons (MayGo left) w ws (others_may w (is_sym named (text_of_version w) ∙ parts.0) (All-head (MayGo S) w ws all)) (all_may ws parts.1 (All-tail (MayGo S) w ws all))
      where
        neither : (a b : Bool) → (a || b) ≡ false → (a ≡ false) × (b ≡ false)
        neither true b e = absurd (true≢false e)
        neither false b e = (refl, e)

  -- ---- the run

  -- what it leaves
  record Ran (S U : State) (vs : List VersionParts) : Type 0 where
    pub accepted : AreAccepted S now who p vs
    pub kept : IsKept U
    pub access : U.access ≡ S.access
    pub live : (q u : Text) → at U.live (q, u) ≡ cond (is p q && among is (map text_of_version vs) u) None (at S.live (q, u))
    pub spent : (q u : Text) → at U.spent (q, u) ≡ cond (is p q && among is (map text_of_version vs) u) (option_map (moments_at now) (since_when S now p u)) (at S.spent (q, u))
    pub tags : (q t : Text) → is p q ≡ false → at U.tags (q, t) ≡ at S.tags (q, t)

  none_here : {X : Type 0} (b : Bool) (x y : X) → y ≡ cond (b && false) x y
  none_here true x y = refl
  none_here false x y = refl

  -- a version went first, and is none of the others
  spent_joined : (first_at : ℕ) (here first later : Bool) (then_since since : Option ℕ) (old : Option Withdrawal) → (first ≡ true → later ≡ false) → (first ≡ true → since ≡ Some first_at)
      → (first ≡ false → here ≡ true → then_since ≡ since)
      → cond (here && later) (option_map (moments_at now) then_since) (cond (here && first) (Some (moments_at now first_at)) old) ≡ cond (here && (first || later)) (option_map (moments_at now) since) old
  spent_joined n true true true then_since since old once is_since same = absurd (true≢false (once refl))
  spent_joined n true true false then_since since old once is_since same = sym (ap (option_map (moments_at now)) (is_since refl))
  spent_joined n true false true then_since since old once is_since same = ap (option_map (moments_at now)) (same refl refl)
  spent_joined n true false false then_since since old once is_since same = refl
  spent_joined n false first later then_since since old once is_since same = refl

  ran : (S : State) (vs : List VersionParts) → IsKept S → Allows S → All (MayGo S) vs → IsOnce (map text_of_version vs) → Ran S (all_withdrawn S now who p vs) vs
  ran S [] kept policy all once = record {
    accepted = tt;
    kept = kept;
    access = refl;
    live = λ q u. none_here (is p q) None (at S.live (q, u));
    spent = λ q u. none_here (is p q) _ (at S.spent (q, u));
    tags = λ q t e. refl;
  }
  ran S (v ∷ vs) kept policy all once =
      let may = All-head (MayGo S) v vs all in
      let T = left S v may kept in
      let name = text_of_version v in
      let spent = spends S v may kept in
      let rest = ran T vs (left_kept S v may kept) (ap (λ A. unless_allowed (may_write who (position_in A who p))) spent.access ∙ policy)
      (all_may S v may kept vs once.0 (All-tail (MayGo S) v vs all)) once.1 in
      let later : Text → Bool = λ u. among is (map text_of_version vs) u in
      record {
        accepted = (goes S v policy may, rest.accepted);
        kept = rest.kept;
        access = rest.access ∙ spent.access;
        live = λ q u. rest.live q u ∙ ap (λ (o : Option Release). cond (is p q && later u) None o) (live_left S v may kept q u) ∙ gone_joined (is p q) (is name u) (later u) (at S.live (q, u));
        spent = λ q u.
            rest.spent q u
            ∙ ap (λ (o : Option Withdrawal). cond (is p q && later u) (option_map (moments_at now) (since_when T now p u)) o) (spent_left S v may kept q u)
            ∙ spent_joined may.release.at (is p q) (is name u) (later u) (since_when T now p u) (since_when S now p u) (at S.spent (q, u))
            (λ e. ap later (sym (same_true text_key name u e)) ∙ once.0)
            (λ e. ap (option_map (λ (r : Release). r.at)) (ap (λ x. at S.live (p, x)) (sym (same_true text_key name u e)) ∙ may.lives))
            (λ e here. ap (option_map (λ (r : Release). r.at)) (live_left S v may kept p u ∙ ap (λ b. cond (is p p && b) None (at S.live (p, u))) e ∙ sym (none_here (is p p) None (at S.live (p, u)))));
        tags = λ q t e. rest.tags q t e ∙ tags_left S v may kept q t e;
      }

  -- ---- it is that of the whole

  module _ (S : State) (kept : IsKept S) where
    may_all : refusal_by S now who (WithdrawAll p) ≡ None → (ws : List VersionParts) → All (λ v. IsVersionOf (text_of_version v) v) ws
        → ((u : Text) → among is (map text_of_version ws) u ≡ true → is_live S p u ≡ true) → All (MayGo S) ws
    may_all may [] forms live = All-nil (MayGo S)
    may_all may (w ∷ ws) forms live =
        All-cons (MayGo S) w ws (one (at S.live (p, text_of_version w)) refl) (may_all may ws (All-tail (λ v. IsVersionOf (text_of_version v) v) w ws forms) (λ u h. live u (or_right (is (text_of_version w) u) _ h)))
      where
        passed : (list_any (λ (e : Text × ℕ). is_too_old now e.1) (live_since S p) ≡ false) × (is_any_depended S p ≡ false)
        passed = passed_all S now p (live_since S p) (is_any_depended S p) (state_passed S now who (WithdrawAll p) may)

        or_right : (a b : Bool) → b ≡ true → (a || b) ≡ true
        or_right true b e = refl
        or_right false b e = e

        form : IsVersionOf (text_of_version w) w
        form = All-head (λ v. IsVersionOf (text_of_version v) v) w ws forms

        here : is_live S p (text_of_version w) ≡ true
        here = live (text_of_version w) (ap (λ b. b || among is (map text_of_version ws) (text_of_version w)) (same_self text_key (text_of_version w)))

        one : (o : Option Release) → at S.live (p, text_of_version w) ≡ o → MayGo S w
        one None e = absurd (true≢false (sym here ∙ ap is_some e))
        one (Some r) e = record { form = form; release = r; lives = e; young = young_all S now p (text_of_version w) r e passed.0; unneeded = unneeded_all S now p w form here passed.1 }

    whole_ran : (vs : List VersionParts) → AreTheLive S p vs → refusal_by S now who (WithdrawAll p) ≡ None → Ran S (all_withdrawn S now who p vs) vs
    whole_ran vs are may = ran S vs kept (policy_passed S now who (WithdrawAll p) may) (may_all may vs are.form (λ u h. are.live u ∙ h)) are.once

    module _ (vs : List VersionParts) (are : AreTheLive S p vs) (may : refusal_by S now who (WithdrawAll p) ≡ None) where
      abbrev U : State
      U = all_withdrawn S now who p vs

      run : Ran S U vs
      run = whole_ran vs are may

      live_same : (q u : Text) → at (whole_left S now p).live (q, u) ≡ at U.live (q, u)
      live_same q u = whole_live S now p q u ∙ sym (run.live q u ∙ ap (λ b. cond (is p q && b) None (at S.live (q, u))) (sym (are.live u)) ∙ here_or S now p q u S.live (is p q) refl)

      spent_same : (q u : Text) → at (whole_left S now p).spent (q, u) ≡ at U.spent (q, u)
      spent_same q u = whole_spent S now p q u ∙ ap (λ b. cond (is p q && b) (option_map (moments_at now) (since_when S now p u)) (at S.spent (q, u))) (are.live u) ∙ sym (run.spent q u)

      none_live : (u : Text) → at U.live (p, u) ≡ None
      none_live u = sym (live_same p u) ∙ whole_live S now p p u ∙ ap (λ b. cond b None (at S.live (p, u))) (same_self text_key p)

      -- a tag names a live version, and none is left
      no_tag : (t : Text) (o : Option Text) → at U.tags (p, t) ≡ o → o ≡ None
      no_tag t None e = refl
      no_tag t (Some v) e = absurd (true≢false (sym (run.kept.tags p t v e).live ∙ ap is_some (none_live v)))

      tags_same : (q t : Text) (b : Bool) → is p q ≡ b → cond b None (at S.tags (q, t)) ≡ at U.tags (q, t)
      tags_same q t true e = sym (ap (λ r. at U.tags (r, t)) (sym (same_true text_key p q e)) ∙ no_tag t (at U.tags (p, t)) refl)
      tags_same q t false e = sym (run.tags q t e)

      same_state : whole_left S now p ≡ U
      same_state =
          state_is (whole_left S now p) U (sym run.access) (same_map pair_key _ _ (λ k. live_same k.0 k.1)) (same_map pair_key _ _ (λ k. spent_same k.0 k.1))
          (same_map pair_key _ _ (λ k. whole_tags S now p k.0 k.1 ∙ tags_same k.0 k.1 (is p k.0) refl))

pub withdrawals_of_all_are_runs : WithdrawalsOfAllAreRuns
withdrawals_of_all_are_runs S now who p vs kept moment are may =
    ((run now who p moment S kept vs are may).accepted, whole_is S now p ∙ same_state now who p moment S kept vs are may)

-- ---- refused as one of them

module _ (S : State) (now : ℕ) (who : Caller) (p : Text) (kept : IsKept S) where
  abbrev denied : Option Refusal
  denied = unless_allowed (may_write who (position_in S.access who p))

  abbrev old_entry : Text × ℕ → Bool
  old_entry e = is_too_old now e.1

  -- the withdrawal of a version whose text lives
  abbrev AsOne : Refusal → Type 0
  AsOne why = (v : VersionParts) × IsVersionOf (text_of_version v) v × IsTrue (is_live S p (text_of_version v)) × (refusal_by S now who (Withdraw p v) ≡ Some why)

  -- a live text is that of a version
  version_of_live : (u : Text) (r : Release) → at S.live (p, u) ≡ Some r → (v : VersionParts) × IsVersionOf (text_of_version v) v × (u ≡ text_of_version v)
  version_of_live u r e =
      let was = kept.live p u r e in
      (was.version, subst (λ t. IsVersionOf t was.version) was.is_version.0 was.is_version, was.is_version.0)

  refused_as : (v : VersionParts) (r : Release) → at S.live (p, text_of_version v) ≡ Some r → (b c : Bool) → is_too_old now r.at ≡ b → is_depended S p v ≡ c
      → refusal_by S now who (Withdraw p v) ≡ option_or denied (refuse b TooLate (refuse c Depended None))
  refused_as v r e b c old needed =
      ap (λ (o : Option Release). option_or denied (withdraw_refusal now (option_map (λ (r : Release). r.at) o) (is_depended S p v))) e
      ∙ ap₂ (λ x y. option_or denied (refuse x TooLate (refuse y Depended None))) old needed

  -- one that lives
  some_live : IsTrue (has_live S p) → (u : Text) × (r : Release) × (at S.live (p, u) ≡ Some r)
  some_live h = let found = any_of S.live p (λ e. true) (by_list (of S.live p) h) in (found.0.0, found.0.1, found.1)
    where
      by_list : (es : List (Text × Release)) → not (is_empty es) ≡ true → list_any (λ e. true) es ≡ true
      by_list [] h = absurd (true≢false (sym h))
      by_list (e ∷ es) h = refl

  denied_as_one : (why : Refusal) → denied ≡ Some why → IsTrue (has_live S p) → AsOne why
  denied_as_one why e h =
      let one = some_live h in
      let v = version_of_live one.0 one.1 one.2 in
      let lives = ap (λ t. at S.live (p, t)) (sym v.2) ∙ one.2 in
      (v.0, v.1, ap is_some lives, ap (λ o. option_or o (withdraw_refusal now (option_map (λ (r : Release). r.at) (at S.live (p, text_of_version v.0))) (is_depended S p v.0))) e)

  late_as_one : denied ≡ None → list_any old_entry (live_since S p) ≡ true → AsOne TooLate
  late_as_one policy h =
      let found = any_of S.live p (λ (e : Text × Release). is_too_old now e.1.at) (sym (list_any-map old_entry (λ (e : Text × Release). (e.0, e.1.at)) (of S.live p)) ∙ h) in
      let v = version_of_live found.0.0 found.0.1 found.1 in
      let lives = ap (λ t. at S.live (p, t)) (sym v.2) ∙ found.1 in
      (v.0, v.1, ap is_some lives, refused_as v.0 found.0.1 lives true (is_depended S p v.0) found.2 refl ∙ ap (λ o. option_or o (Some TooLate)) policy)

  needed_as_one : denied ≡ None → list_any old_entry (live_since S p) ≡ false → is_any_depended S p ≡ true → AsOne Depended
  needed_as_one policy young h = by_release (at S.live (p, found.text)) refl
    where
      found : Spelled (is_depended S p) (live_versions S p)
      found = spelled_any (is_depended S p) (live_versions S p) h

      by_release : (o : Option Release) → at S.live (p, found.text) ≡ o → AsOne Depended
      by_release None e = absurd (true≢false (sym found.member ∙ any-part text_key S.live p found.text ∙ ap is_some e))
      by_release (Some r) e =
          let was = kept.live p found.text r e in
          let same : was.version ≡ found.version = some_same was.version found.version (sym (version_reads found.text was.version was.is_version) ∙ found.spells) in
          let form = subst (IsVersionOf found.text) same was.is_version in
          let lives = ap (λ t. at S.live (p, t)) (sym form.0) ∙ e in (
            found.version,
            subst (λ t. IsVersionOf t found.version) form.0 form,
            ap is_some lives,
            refused_as found.version r lives false true (young_all S now p found.text r e young) found.passed ∙ ap (λ o. option_or o (Some Depended)) policy,
          )

  as_one : (why : Refusal) → IsTrue (has_live S p) → refusal_by S now who (WithdrawAll p) ≡ Some why → AsOne why
  as_one why lives h = by_policy denied refl h
    where
      not_empty : (es : List (Text × Release)) → not (is_empty es) ≡ true → is_empty {X = Text × ℕ} (map (λ (e : Text × Release). (e.0, e.1.at)) es) ≡ false
      not_empty [] e = absurd (true≢false (sym e))
      not_empty (x ∷ xs) e = refl

      by_state : denied ≡ None → (a b c : Bool) → is_empty (live_since S p) ≡ a → list_any old_entry (live_since S p) ≡ b → is_any_depended S p ≡ c
          → refuse a NotFound (refuse b TooLate (refuse c Depended None)) ≡ Some why → AsOne why
      by_state policy true b c empty old needed e = absurd (true≢false (sym empty ∙ not_empty (of S.live p) lives))
      by_state policy false true c empty old needed e = subst AsOne (some_same TooLate why e) (late_as_one policy old)
      by_state policy false false true empty old needed e = subst AsOne (some_same Depended why e) (needed_as_one policy old needed)
      by_state policy false false false empty old needed e = cc

      by_policy : (o : Option Refusal) → denied ≡ o → option_or o (withdraw_all_refusal now (live_since S p) (is_any_depended S p)) ≡ Some why → AsOne why
      by_policy (Some r) policy e = subst AsOne (some_same r why e) (denied_as_one r policy lives)
      by_policy None policy e = by_state policy (is_empty (live_since S p)) (list_any old_entry (live_since S p)) (is_any_depended S p) refl refl refl e

  lives_as : (v : VersionParts) → IsTrue (is_live S p (text_of_version v)) → (r : Release) × (at S.live (p, text_of_version v) ≡ Some r)
  lives_as v lives = by_release (at S.live (p, text_of_version v)) refl
    where
      by_release : (o : Option Release) → at S.live (p, text_of_version v) ≡ o → (r : Release) × (at S.live (p, text_of_version v) ≡ Some r)
      by_release None e = absurd (true≢false (sym lives ∙ ap is_some e))
      by_release (Some r) e = (r, e)

  if_one : (v : VersionParts) (why : Refusal) → IsVersionOf (text_of_version v) v → IsTrue (is_live S p (text_of_version v)) → refusal_by S now who (Withdraw p v) ≡ Some why → IsSome (refusal_by S now who (WithdrawAll p))
  if_one v why form lives h = by_refusal (refusal_by S now who (WithdrawAll p)) refl
    where
      stands : refusal_by S now who (WithdrawAll p) ≡ None → refusal_by S now who (Withdraw p v) ≡ None
      stands e =
          let passed = passed_all S now p (live_since S p) (is_any_depended S p) (state_passed S now who (WithdrawAll p) e) in
          let here = lives_as v lives in
          refused_as v here.0 here.1 false false (young_all S now p (text_of_version v) here.0 here.1 passed.0) (unneeded_all S now p v form lives passed.1)
          ∙ ap (λ o. option_or o None) (policy_passed S now who (WithdrawAll p) e)

      by_refusal : (o : Option Refusal) → refusal_by S now who (WithdrawAll p) ≡ o → IsSome (refusal_by S now who (WithdrawAll p))
      by_refusal (Some r) e = ap is_some e
      by_refusal None e = let none : None ≡ Some why = sym (stands e) ∙ h in cc

  late_whole : (live : List (Text × ℕ)) (depended : Bool) → list_any old_entry live ≡ true → withdraw_all_refusal now live depended ≡ Some TooLate
  late_whole [] depended h = absurd (true≢false (sym h))
  late_whole (e ∷ es) depended h = ap (λ b. refuse b TooLate (refuse depended Depended None)) h

  too_late : (v : VersionParts) → IsTrue (is_live S p (text_of_version v)) → refusal_by S now who (Withdraw p v) ≡ Some TooLate → refusal_by S now who (WithdrawAll p) ≡ Some TooLate
  too_late v lives h = by_policy denied refl
    where
      here : (r : Release) × (at S.live (p, text_of_version v) ≡ Some r)
      here = lives_as v lives

      by_age : denied ≡ None → (b : Bool) → is_too_old now here.0.at ≡ b → refusal_by S now who (WithdrawAll p) ≡ Some TooLate
      by_age policy true old =
          ap₂ option_or policy (late_whole (live_since S p) (is_any_depended S p)
          (list_any-map old_entry (λ (e : Text × Release). (e.0, e.1.at)) (of S.live p) ∙ of_any S.live p (λ (e : Text × Release). is_too_old now e.1.at) (text_of_version v) here.0 here.1 old))
      by_age policy false old =
          let said = sym h ∙ refused_as v here.0 here.1 false (is_depended S p v) old refl ∙ ap (λ o. option_or o (refuse (is_depended S p v) Depended None)) policy in
          by_need (is_depended S p v) said
        where
          by_need : (c : Bool) → Some TooLate ≡ refuse c Depended None → refusal_by S now who (WithdrawAll p) ≡ Some TooLate
          by_need true e = cc
          by_need false e = cc

      by_policy : (o : Option Refusal) → denied ≡ o → refusal_by S now who (WithdrawAll p) ≡ Some TooLate
      by_policy (Some r) e =
          let same : r ≡ TooLate = some_same r TooLate (sym (ap (λ o. option_or o (state_refusal S now (Withdraw p v))) e) ∙ h) in
          ap (λ o. option_or o (state_refusal S now (WithdrawAll p))) e ∙ ap (λ x. Some x) same
      by_policy None e = by_age e (is_too_old now here.0.at) refl

  none_lives : has_live S p ≡ false → denied ≡ None → refusal_by S now who (WithdrawAll p) ≡ Some NotFound
  none_lives none policy = ap₂ option_or policy (by_list (of S.live p) none)
    where
      by_list : (es : List (Text × Release)) → not (is_empty es) ≡ false → withdraw_all_refusal now (map (λ (e : Text × Release). (e.0, e.1.at)) es) (is_any_depended S p) ≡ Some NotFound
      by_list [] e = refl
      by_list (x ∷ xs) e = absurd (true≢false e)

  is_refused_as_one : IsRefusedAsOne S now who p
  is_refused_as_one = record { as_one = as_one; if_one = if_one; too_late = too_late; none_lives = none_lives }

pub withdrawals_of_all_are_refused_as_one : WithdrawalsOfAllAreRefusedAsOne
withdrawals_of_all_are_refused_as_one S now who p kept = is_refused_as_one S now who p kept

-- ---- what it leaves

pub withdrawals_of_all_spend : WithdrawalsOfAllSpend
withdrawals_of_all_spend S now who p =
    subst (λ T. WithdrawsAll S T now p) (sym (whole_is S now p)) (record {
      gone = λ v. whole_live S now p p v ∙ ap (λ b. cond b None (at S.live (p, v))) self;
      tags = λ t. whole_tags S now p p t ∙ ap (λ b. cond b None (at S.tags (p, t))) self;
      spent = λ v release e.
          whole_spent S now p p v ∙ ap₂ (λ a b. cond (a && b) (option_map (moments_at now) (since_when S now p v)) (at S.spent (p, v))) self (ap is_some e)
          ∙ ap (λ (o : Option Release). option_map (moments_at now) (option_map (λ (r : Release). r.at) o)) e;
      earlier = λ v e. whole_spent S now p p v ∙ ap₂ (λ a b. cond (a && b) (option_map (moments_at now) (since_when S now p v)) (at S.spent (p, v))) self (ap is_some e);
      live = λ q v differ. whole_live S now p q v ∙ ap (λ b. cond b None (at S.live (q, v))) (apart q differ);
      others = λ q v differ. whole_spent S now p q v ∙ ap (λ a. cond (a && is_live S p v) (option_map (moments_at now) (since_when S now p v)) (at S.spent (q, v))) (apart q differ);
      other_tags = λ q t differ. whole_tags S now p q t ∙ ap (λ b. cond b None (at S.tags (q, t))) (apart q differ);
      access = refl;
    })
  where
    self : is p p ≡ true
    self = same_self text_key p

    apart : (q : Text) → q ≢ p → is p q ≡ false
    apart q differ = unlike p q (λ same. differ (sym same))
