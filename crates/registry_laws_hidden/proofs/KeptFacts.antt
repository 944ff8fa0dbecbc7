-- A withdrawal of another package, with the package and without it: the package alone may keep it
-- from being done.
use Rattle.std.proofs.Common.{◌≡◌, ℕ, Bool, true, false, not, ◌&&◌, ◌||◌, refl, sym, ap, ap₂, ◌∙◌, true≢false, Some, None, Option, List, [], ◌∷◌, is_none, filter, if◌then◌else◌}
use Rattle.std.proofs.lemmas.Bool.{and_parts}
use Rattle.std.specs.List.{list_any}
use Rattle.std.specs.Option.{option_or}
use Rattle.registry_names.specs.Keys.{Pair}
use Rattle.registry_names.specs.Maps.{entries}
use Rattle.registry_names.specs.Texts.{Text, is}
use Rattle.registry_names.specs.Versions.{VersionParts, text_of_version}
use Rattle.registry_names.specs.declared.refusal.Refusal.{Refusal}
use Rattle.registry_names.specs.declared.refusal.Refusal.TheVariants.{NotFound, TooLate, Depended}
use Rattle.registry_names.proofs.EntryFacts.{entries-keep}
use Rattle.registry_names.proofs.KeyFacts.{pair_key, text_key, same_true}
use Rattle.registry_names.proofs.TextFacts.{is_sym}
use Rattle.registry_access.specs.declared.caller.Caller.{Caller}
use Rattle.registry_ranges.proofs.RangeFacts.{list_any-map}
use Rattle.registry_rules.specs.Permissions.{permission}
use Rattle.registry_rules.specs.Refusals.{refuse, refusal_by, unless_allowed, withdraw_all_refusal, withdraw_refusal}
use Rattle.registry_rules.specs.State.{State, Release, is_empty}
use Rattle.registry_rules.specs.Withdrawals.{is_any_depended, is_depended, is_need_of, is_too_old, live_since, live_versions, needs_in, published_at, versions_in}
use Rattle.registry_rules.specs.declared.request.Action.{Action}
use Rattle.registry_rules.specs.declared.request.Action.TheVariants.{Withdraw, WithdrawAll}
use Rattle.registry_laws_hidden.specs.Concerns.{is_kept_by, is_needed_by, versions_ended}
use Rattle.registry_laws_hidden.specs.Without.{state_without}
use Rattle.registry_laws_hidden.proofs.AcceptedFacts.{permission_other, refusal_other, same_live_parts, same_live_since, same_published_at}
use Rattle.registry_laws_hidden.proofs.NamedFacts.{other_pair}
use Rattle.registry_laws_hidden.proofs.Subjects.{concerns}

-- ---- a version is needed by the package, or by another

assoc : (a b c : Bool) → (a || (b || c)) ≡ ((a || b) || c)
assoc true b c = refl
assoc false b c = refl

swap : (a b c : Bool) → (a || (b || c)) ≡ (b || (a || c))
swap true true c = refl
swap true false c = refl
swap false b c = refl

module _ {X : Type 0} (first second need : X → Bool) (apart : (x : X) → first x ≡ true → second x ≡ false) where
  abbrev needs : X → Bool
  needs x = not (second x) && need x

  one_more : (x : X) (ys : List X) (all own a : Bool) → first x ≡ a → all ≡ (own || list_any needs ys) → (needs x || all) ≡ (((a && need x) || own) || list_any needs (if not a then x ∷ ys else ys))
  one_more x ys all own true here e = ap₂ (λ b c. (not b && need x) || c) (apart x here) e ∙ assoc (need x) own (list_any needs ys)
  one_more x ys all own false here e = ap (λ c. needs x || c) e ∙ swap (needs x) own (list_any needs ys)

  pub split : (xs : List X) → list_any needs xs ≡ (list_any (λ x. first x && need x) xs || list_any needs (filter (λ x. not (first x)) xs))
  split [] = refl
  split (x ∷ xs) = one_more x (filter (λ x. not (first x)) xs) (list_any needs xs) (list_any (λ x. first x && need x) xs) (first x) refl (split xs)

needed_split : (S : State) (p q : Text) (v : VersionParts) → is q p ≡ false → is_depended S q v ≡ (is_needed_by S p q v || is_depended (state_without S p) q v)
needed_split S p q v other =
    let here = λ (e : Pair × Release). is e.0.0 p in
    let its = λ (e : Pair × Release). is e.0.0 q in
    let need = λ (e : Pair × Release). list_any (is_need_of q v) (needs_in e.1) in
    split here its need (λ e there. ap (λ (r : Text). is r q) (same_true text_key e.0.0 p there) ∙ is_sym p q ∙ other) (entries S.live)
    ∙ ap (λ (es : List (Pair × Release)). is_needed_by S p q v || list_any (λ (e : Pair × Release). not (is e.0.0 q) && list_any (is_need_of q v) (needs_in e.1)) es) (sym (entries-keep pair_key S.live (other_pair p)))

-- ---- why the withdrawal is refused

refused_alike : (v : Option Refusal) (now : ℕ) (published : Option ℕ) (needed less : Bool) → (needed && is_none (option_or v (withdraw_refusal now published less))) ≡ false
    → option_or v (withdraw_refusal now published less) ≡ option_or v (withdraw_refusal now published (needed || less))
refused_alike (Some why) now published needed less free = refl
refused_alike None now None needed less free = refl
refused_alike None now (Some at) needed less free = by_age (is_too_old now at) needed less free
  where
    by_age : (old needed less : Bool) → (needed && is_none (option_or None (refuse old TooLate (refuse less Depended None)))) ≡ false
        → option_or None (refuse old TooLate (refuse less Depended None)) ≡ option_or None (refuse old TooLate (refuse (needed || less) Depended None))
    by_age true needed less free = refl
    by_age false false less free = refl
    by_age false true true free = refl
    by_age false true false free = absurd (true≢false free)

refused_alone : (v : Option Refusal) (now : ℕ) (published : Option ℕ) (needed less : Bool) → (needed && is_none (option_or v (withdraw_refusal now published less))) ≡ true
    → (option_or v (withdraw_refusal now published (needed || less)) ≡ Some Depended) × (option_or v (withdraw_refusal now published less) ≡ None)
refused_alone (Some why) now published true less kept = absurd (true≢false (sym kept))
refused_alone (Some why) now published false less kept = absurd (true≢false (sym kept))
refused_alone None now None true less kept = absurd (true≢false (sym kept))
refused_alone None now None false less kept = absurd (true≢false (sym kept))
refused_alone None now (Some at) needed less kept = by_age (is_too_old now at) needed less kept
  where
    by_age : (old needed less : Bool) → (needed && is_none (option_or None (refuse old TooLate (refuse less Depended None)))) ≡ true
        → (option_or None (refuse old TooLate (refuse (needed || less) Depended None)) ≡ Some Depended) × (option_or None (refuse old TooLate (refuse less Depended None)) ≡ None)
    by_age true true less kept = absurd (true≢false (sym kept))
    by_age true false less kept = absurd (true≢false (sym kept))
    by_age false false less kept = absurd (true≢false (sym kept))
    by_age false true true kept = absurd (true≢false (sym kept))
    by_age false true false kept = (refl, refl)

module _ (S : State) (now : ℕ) (who : Caller) (q : Text) (v : VersionParts) (p : Text) (other : is q p ≡ false) where
  abbrev verdict : Option Refusal
  verdict = unless_allowed (permission (state_without S p).access who (Withdraw q v))

  abbrev published : Option ℕ
  published = published_at (state_without S p) q (text_of_version v)

  -- on the registry it is refused as if one package more could need the version
  refused_by : refusal_by S now who (Withdraw q v) ≡ option_or verdict (withdraw_refusal now published (is_needed_by S p q v || is_depended (state_without S p) q v))
  refused_by =
      ap (λ b. option_or (unless_allowed (permission S.access who (Withdraw q v))) (withdraw_refusal now (published_at S q (text_of_version v)) b)) (needed_split S p q v other)
      ∙ ap₂ (λ x t. option_or (unless_allowed x) (withdraw_refusal now t (is_needed_by S p q v || is_depended (state_without S p) q v)))
      (sym (permission_other S.access who (Withdraw q v) p other)) (sym (same_published_at S p q other (text_of_version v)))

  alone : (b : Bool) → is_kept_by S now who (Withdraw q v) p ≡ b → (is_needed_by S p q v && is_none (refusal_by (state_without S p) now who (Withdraw q v))) ≡ b
  alone b e =
      ap (λ n. n && is_none (refusal_by (state_without S p) now who (Withdraw q v))) (or_none (is_needed_by S p q v))
      ∙ ap (λ c. (not c && is_needed_by S p q v || false) && is_none (refusal_by (state_without S p) now who (Withdraw q v))) (sym other) ∙ e
    where
      or_none : (n : Bool) → n ≡ (n || false)
      or_none true = refl
      or_none false = refl

  withdrawal_alike : is_kept_by S now who (Withdraw q v) p ≡ false → refusal_by (state_without S p) now who (Withdraw q v) ≡ refusal_by S now who (Withdraw q v)
  withdrawal_alike free = refused_alike verdict now published (is_needed_by S p q v) (is_depended (state_without S p) q v) (alone false free) ∙ sym refused_by

  pub withdrawal_kept : is_kept_by S now who (Withdraw q v) p ≡ true → (refusal_by S now who (Withdraw q v) ≡ Some Depended) × (refusal_by (state_without S p) now who (Withdraw q v) ≡ None)
  withdrawal_kept kept =
      let both = refused_alone verdict now published (is_needed_by S p q v) (is_depended (state_without S p) q v) (alone true kept) in
      (refused_by ∙ both.0, both.1)

-- ---- the same of all live versions

any_either : {X : Type 0} (f g h : X → Bool) → ((x : X) → f x ≡ (g x || h x)) → (xs : List X) → list_any f xs ≡ (list_any g xs || list_any h xs)
any_either f g h either [] = refl
any_either f g h either (x ∷ xs) = ap₂ (λ a b. a || b) (either x) (any_either f g h either xs) ∙ apart (g x) (h x) (list_any g xs) (list_any h xs)
  where
    apart : (a b c d : Bool) → ((a || b) || (c || d)) ≡ ((a || c) || (b || d))
    apart true b c d = refl
    apart false true true d = refl
    apart false true false d = refl
    apart false false c d = refl

none_passes : {X : Type 0} (xs : List X) → list_any (λ x. false) xs ≡ false
none_passes [] = refl
none_passes (x ∷ xs) = none_passes xs

-- whether the whole is refused, by the policy, or by one of the reasons in turn
abbrev whole : Option Refusal → Bool → Bool → Bool → Option Refusal
whole v empty old needed = option_or v (refuse empty NotFound (refuse old TooLate (refuse needed Depended None)))

whole_alike : (v : Option Refusal) (empty old needed less : Bool) → (needed && is_none (whole v empty old less)) ≡ false → whole v empty old less ≡ whole v empty old (needed || less)
whole_alike (Some why) empty old needed less free = refl
whole_alike None true old needed less free = refl
whole_alike None false true needed less free = refl
whole_alike None false false false less free = refl
whole_alike None false false true true free = refl
whole_alike None false false true false free = absurd (true≢false free)

whole_alone : (v : Option Refusal) (empty old needed less : Bool) → (needed && is_none (whole v empty old less)) ≡ true → (whole v empty old (needed || less) ≡ Some Depended) × (whole v empty old less ≡ None)
whole_alone v empty old false less kept = absurd (true≢false (sym kept))
whole_alone (Some why) empty old true less kept = absurd (true≢false (sym kept))
whole_alone None true old true less kept = absurd (true≢false (sym kept))
whole_alone None false true true less kept = absurd (true≢false (sym kept))
whole_alone None false false true true kept = absurd (true≢false (sym kept))
whole_alone None false false true false kept = (refl, refl)

module _ (S : State) (now : ℕ) (who : Caller) (q p : Text) where
  abbrev R : State
  R = state_without S p

  abbrev parts : List VersionParts
  parts = versions_in (live_versions S q)

  -- whether the package needs one of the versions
  abbrev any_needed : Bool
  any_needed = list_any (λ v. is_needed_by S p q v) parts

  abbrev all_refused : Bool → Option Refusal
  all_refused needed = option_or (unless_allowed (permission R.access who (WithdrawAll q))) (withdraw_all_refusal now (live_since R q) needed)

  named_or : (b : Bool) → is q p ≡ b → list_any (λ (e : Text × VersionParts). not (is e.0 p) && is_needed_by S p e.0 e.1) (versions_ended S (WithdrawAll q)) ≡ (not b && any_needed)
  named_or b e =
      list_any-map (λ (e : Text × VersionParts). not (is e.0 p) && is_needed_by S p e.0 e.1) (λ (v : VersionParts). (q, v)) parts
      ∙ ap (λ c. list_any (λ v. not c && is_needed_by S p q v) parts) e ∙ by_name b
    where
      by_name : (c : Bool) → list_any (λ v. not c && is_needed_by S p q v) parts ≡ (not c && any_needed)
      by_name true = none_passes parts
      by_name false = refl

  module _ (other : is q p ≡ false) where
    any_split : is_any_depended S q ≡ (any_needed || is_any_depended R q)
    any_split =
        any_either (is_depended S q) (λ v. is_needed_by S p q v) (is_depended R q) (λ v. needed_split S p q v other) parts
        ∙ ap (λ vs. any_needed || list_any (is_depended R q) vs) (sym (same_live_parts S p q other))

    whole_refused_by : refusal_by S now who (WithdrawAll q) ≡ all_refused (any_needed || is_any_depended R q)
    whole_refused_by =
        ap (λ b. option_or (unless_allowed (permission S.access who (WithdrawAll q))) (withdraw_all_refusal now (live_since S q) b)) any_split
        ∙ ap₂ (λ x live. option_or (unless_allowed x) (withdraw_all_refusal now live (any_needed || is_any_depended R q)))
        (sym (permission_other S.access who (WithdrawAll q) p other)) (sym (same_live_since S p q other))

    whole_one : (b : Bool) → is_kept_by S now who (WithdrawAll q) p ≡ b → (any_needed && is_none (all_refused (is_any_depended R q))) ≡ b
    whole_one b e = ap (λ n. n && is_none (refusal_by R now who (WithdrawAll q))) (sym (named_or false other)) ∙ e

    whole_withdrawal_alike : is_kept_by S now who (WithdrawAll q) p ≡ false → refusal_by R now who (WithdrawAll q) ≡ refusal_by S now who (WithdrawAll q)
    whole_withdrawal_alike free =
        whole_alike (unless_allowed (permission R.access who (WithdrawAll q))) (is_empty (live_since R q)) (list_any (λ (e : Text × ℕ). is_too_old now e.1) (live_since R q)) any_needed (is_any_depended R q) (whole_one false free)
        ∙ sym whole_refused_by

    whole_withdrawal_kept : is_kept_by S now who (WithdrawAll q) p ≡ true → (refusal_by S now who (WithdrawAll q) ≡ Some Depended) × (refusal_by R now who (WithdrawAll q) ≡ None)
    whole_withdrawal_kept kept =
        let both = whole_alone (unless_allowed (permission R.access who (WithdrawAll q))) (is_empty (live_since R q)) (list_any (λ (e : Text × ℕ). is_too_old now e.1) (live_since R q)) any_needed (is_any_depended R q) (whole_one true kept) in
        (whole_refused_by ∙ both.0, both.1)

  -- what is kept is of another package
  whole_other : is_kept_by S now who (WithdrawAll q) p ≡ true → is q p ≡ false
  whole_other kept = by_name (is q p) refl
    where
      by_name : (b : Bool) → is q p ≡ b → b ≡ false
      by_name true e = sym kept ∙ ap (λ n. n && is_none (refusal_by R now who (WithdrawAll q))) (named_or true e)
      by_name false e = refl

-- what isn't about the package, and isn't such a withdrawal, is refused for the same reason
pub refusal_alike : (S : State) (now : ℕ) (who : Caller) (what : Action) (p : Text) → concerns what p ≡ false → is_kept_by S now who what p ≡ false → refusal_by (state_without S p) now who what ≡ refusal_by S now who what
refusal_alike S now who (Withdraw q v) p other free = withdrawal_alike S now who q v p other free
refusal_alike S now who (WithdrawAll q) p other free = whole_withdrawal_alike S now who q p other free
refusal_alike S now who what p other free = refusal_other S now who what p other refl

-- what the package alone keeps from being done is `Depended`, and isn't about the package
pub kept_is : (S : State) (now : ℕ) (who : Caller) (what : Action) (p : Text) → is_kept_by S now who what p ≡ true → (refusal_by S now who what ≡ Some Depended) × (refusal_by (state_without S p) now who what ≡ None)
kept_is S now who (Withdraw q v) p kept = withdrawal_kept S now who q v p (apart (is q p) (is_needed_by S p q v) (and_parts (not (is q p) && is_needed_by S p q v || false) _ kept).0) kept
  where
    apart : (b n : Bool) → (not b && n || false) ≡ true → b ≡ false
    apart true n e = sym e
    apart false n e = refl
kept_is S now who (WithdrawAll q) p kept = whole_withdrawal_kept S now who q p (whole_other S now who q p kept) kept
kept_is S now who _ p kept = absurd (true≢false (sym kept))

-- ---- two registries that agree in all but the package refuse the same of what isn't about it,
-- except what it alone keeps in one of them
module _ (S T : State) (p : Text) (same : state_without S p ≡ state_without T p) where
  refused_as : (now : ℕ) (who : Caller) (what : Action) → concerns what p ≡ false → (b : Bool) → is_kept_by S now who what p ≡ b → is_kept_by T now who what p ≡ b → refusal_by S now who what ≡ refusal_by T now who what
  refused_as now who what other true here there = (kept_is S now who what p here).0 ∙ sym (kept_is T now who what p there).0
  refused_as now who what other false here there =
      sym (refusal_alike S now who what p other here) ∙ ap (λ U. refusal_by U now who what) same ∙ refusal_alike T now who what p other there

  pub refused_alike_in : (now : ℕ) (who : Caller) (what : Action) → concerns what p ≡ false → is_kept_by S now who what p ≡ is_kept_by T now who what p → refusal_by S now who what ≡ refusal_by T now who what
  refused_alike_in now who what other one = refused_as now who what other (is_kept_by S now who what p) refl (sym one)
