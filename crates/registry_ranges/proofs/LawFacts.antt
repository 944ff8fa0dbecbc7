-- The laws of what texts allow, from what the comparators of their values do.
use Rattle.std.proofs.Common.{◌≡◌, ◌≢◌, ◌++◌, ◌==◌, ℕ, List, [], ◌∷◌, Bool, true, false, refl, sym, ap, ◌∙◌, inl, inr, arith, length, Ordering, append-nil}
use Rattle.std.proofs.lemmas.Bool.{and_from, or_cases, or_left, or_right}
use Rattle.std.proofs.lemmas.Bool.Decides.{nat_tests}
use Rattle.std.specs.Cmp.{tied_itself}
use Rattle.std.specs.List.{list_all, list_any}
use Rattle.std.specs.Ordering.{is_eq, is_lt, is_le, is_gt, is_ge}
use Rattle.std.specs.Prelude.{◌⊎◌, ◌↔◌, ◌&&◌, ◌||◌, codes}
use Rattle.semver.specs.Order.{pre_cmp}
use Rattle.semver.proofs.Segments.{and-left, and-right}
use Rattle.registry_names.proofs.PrecedenceFacts.{precedence_exact, precedence_total}
use Rattle.registry_names.specs.Versions.{VersionParts, precedence}
use Rattle.registry_ranges.specs.declared.relation.Relation.TheVariants as relation
use Rattle.registry_ranges.specs.declared.simple.Operator.{Operator}
use Rattle.registry_ranges.specs.declared.simple.Operator.TheVariants as op
use Rattle.registry_ranges.specs.Comparators.{lower, at_most, high_end, comparators_of_simple, comparators_of_part, comparators_of_range, comparators_of, holds, is_near, range_allows, set_allows, Allows}
use Rattle.registry_ranges.specs.Grammar.{print_operator}
use Rattle.registry_ranges.specs.Laws.{IsInForm, IsRelease, IsFrom, release, Says, start_of, compared, NamesPrerelease, IsOpenTo, AllowsCompared, AllowsCaret, AllowsTilde, hyphened, AllowsHyphened, IsOpenAbove, IsOpenBelow, IsBetween, AllowsItself, AllowsReleases, WildcardsAllowReleases, AllowsNothing}
use Rattle.registry_ranges.specs.Prefixes.{Prefix, any, major, minor, full}
use Rattle.registry_ranges.specs.Values.{Part, simple, hyphen, nothing, IsRangeOf}
use Rattle.registry_ranges.proofs.FormFacts.{allowed-hold, allowed-near, release-allowed, near-allowed, simple-named, simple-near, low-named, low-near, high-named, high-near, lower-compares, greater-compares, less-compares, at_most-compares, same-compares, high-compares, lower-from, tilde-keeps, caret-keeps, and-true, named-near}
use Rattle.registry_ranges.proofs.OrderFacts.{above-zeros, ge-none, release-cmp}
use Rattle.registry_ranges.proofs.SpellingFacts.{value-allows, empty-value, simple-value, hyphen-value, between-value}

-- ---- a range of one part

or-false : (b : Bool) → (b || false) ≡ b
or-false true = refl
or-false false = refl

-- a range of these parts allows what their comparators do
pub range-of : (ps : List Part) (v : VersionParts) → set_allows v (comparators_of (ps, [])) ≡ range_allows v (comparators_of_range ps)
range-of ps v = or-false (range_allows v (comparators_of_range ps))

part-of : (p : Part) (v : VersionParts) → set_allows v (comparators_of (p ∷ [], [])) ≡ range_allows v (comparators_of_part p)
part-of p v = range-of (p ∷ []) v ∙ ap (range_allows v) (append-nil (comparators_of_part p))

pub part-allows : (text : List ℕ) (p : Part) (v : VersionParts) → IsRangeOf text (p ∷ [], []) → Allows text v ↔ (range_allows v (comparators_of_part p) ≡ true)
part-allows text p v value =
    let w = value-allows text (p ∷ [], []) v value in
    (λ a. sym (part-of p v) ∙ w.0 a, λ e. w.1 (part-of p v ∙ e))

-- ---- a partial version after an operator

-- what holds and is open is allowed, and nothing else
simple-allowed : (o : Operator) (p : Prefix) (v : VersionParts) → IsInForm v
    → (range_allows v (comparators_of_simple o p) ≡ true) ↔ ((list_all (holds v) (comparators_of_simple o p) ≡ true) × IsOpenTo v p)
simple-allowed o p v f = (
  λ e.
      let all = allowed-hold v (comparators_of_simple o p) e in
      (all, elim (allowed-near v (comparators_of_simple o p) e) [ inl r ↦ inl r | inr n ↦ inr (simple-named v f o p all n) ]),
  λ h. elim h.1 [
    | inl r ↦ release-allowed v (comparators_of_simple o p) h.0 r
    | inr n ↦ near-allowed v (comparators_of_simple o p) h.0 (simple-near v f o p n)
  ],
)

simple-allows : (o : Operator) (text : List ℕ) (p : Prefix) (v : VersionParts) → Says text p → IsInForm v
    → Allows (print_operator o ++ text) v ↔ ((list_all (holds v) (comparators_of_simple o p) ≡ true) × IsOpenTo v p)
simple-allows o text p v s f =
    let w = part-allows (print_operator o ++ text) (simple o p) v (simple-value o text p s) in
    let q = simple-allowed o p v f in
    (λ a. q.0 (w.0 a), λ h. w.1 (q.1 h))

-- the same where what holds is a test of the comparison
compared-allows : (o : Operator) (test : Ordering → Bool) (text : List ℕ) (p : Prefix) (v : VersionParts) → Says text p → IsInForm v
    → (IsOpenTo v p → list_all (holds v) (comparators_of_simple o p) ≡ test (compared v p)) → AllowsCompared (print_operator o) test text p v
compared-allows o test text p v s f same =
    let w = simple-allows o text p v s f in
    (λ a. let h = w.0 a in (sym (same h.1) ∙ h.0, h.1), λ h. w.1 (same h.1 ∙ h.0, h.1))

pub alone-compares : (text : List ℕ) (p : Prefix) (v : VersionParts) → Says text p → IsInForm v → AllowsCompared [] is_eq text p v
alone-compares text p v s f = compared-allows op.Bare is_eq text p v s f (same-compares v f p)

pub equal-compares : (text : List ℕ) (p : Prefix) (v : VersionParts) → Says text p → IsInForm v → AllowsCompared (codes "=") is_eq text p v
equal-compares text p v s f = compared-allows op.Equal is_eq text p v s f (same-compares v f p)

pub less-allows : (text : List ℕ) (p : Prefix) (v : VersionParts) → Says text p → IsInForm v → AllowsCompared (codes "<") is_lt text p v
less-allows text p v s f = compared-allows op.Less is_lt text p v s f (λ o. and-true (holds v _) ∙ less-compares v f p)

pub less_or_equal-allows : (text : List ℕ) (p : Prefix) (v : VersionParts) → Says text p → IsInForm v → AllowsCompared (codes "<=") is_le text p v
less_or_equal-allows text p v s f = compared-allows op.LessEq is_le text p v s f (λ o. and-true (holds v (at_most p)) ∙ at_most-compares v f p o)

pub greater-allows : (text : List ℕ) (p : Prefix) (v : VersionParts) → Says text p → IsInForm v → AllowsCompared (codes ">") is_gt text p v
greater-allows text p v s f = compared-allows op.Greater is_gt text p v s f (λ o. and-true (holds v _) ∙ greater-compares v f p o)

pub greater_or_equal-allows : (text : List ℕ) (p : Prefix) (v : VersionParts) → Says text p → IsInForm v → AllowsCompared (codes ">=") is_ge text p v
greater_or_equal-allows text p v s f = compared-allows op.GreaterEq is_ge text p v s f (λ o. and-true (holds v (lower p)) ∙ lower-compares v f p o)

-- ---- carets and tildes

pub caret-allows : (text : List ℕ) (p : Prefix) (v : VersionParts) → Says text p → IsInForm v → AllowsCaret text p v
caret-allows text p v s f =
    let w = simple-allows op.Caret text p v s f in
    let k = caret-keeps v f p in
    (λ a. let h = w.0 a in ((k.0 h.0).0, (k.0 h.0).1, h.1), λ h. w.1 (k.1 (h.0, h.1), h.2))

pub tilde-allows : (text : List ℕ) (p : Prefix) (v : VersionParts) → Says text p → IsInForm v → AllowsTilde (codes "~") text p v
tilde-allows text p v s f =
    let w = simple-allows op.Tilde text p v s f in
    let k = tilde-keeps v f p in
    (λ a. let h = w.0 a in ((k.0 h.0).0, (k.0 h.0).1, h.1), λ h. w.1 (k.1 (h.0, h.1), h.2))

pub tilde_greater-allows : (text : List ℕ) (p : Prefix) (v : VersionParts) → Says text p → IsInForm v → AllowsTilde (codes "~>") text p v
tilde_greater-allows text p v s f =
    let w = simple-allows op.TildeGreater text p v s f in
    let k = tilde-keeps v f p in
    (λ a. let h = w.0 a in ((k.0 h.0).0, (k.0 h.0).1, h.1), λ h. w.1 (k.1 (h.0, h.1), h.2))

-- ---- hyphen ranges

hyphen-allowed : (l h : Prefix) (v : VersionParts) → IsInForm v
    → (range_allows v (comparators_of_part (hyphen l h)) ≡ true) ↔ (IsFrom (start_of l) v × (is_le (compared v h) ≡ true) × (IsOpenTo v l ⊎ IsOpenTo v h))
hyphen-allowed l h v f =
    let cs = comparators_of_part (hyphen l h) in (
      λ e.
          let all = allowed-hold v cs e in
          let low = and-left (holds v (lower l)) (list_all (holds v) (high_end h)) all in
          let high = and-right (holds v (lower l)) (list_all (holds v) (high_end h)) all in
          let opened : IsOpenTo v l ⊎ IsOpenTo v h = elim (allowed-near v cs e) [
            | inl r ↦ inl (inl r)
            | inr n ↦ elim (or_cases (is_near v (lower l)) (list_any (is_near v) (high_end h)) n) [
              | inl m ↦ inl (inr (low-named v f l m))
              | inr m ↦ inr (inr (high-named v f h high m))
            ]
          ] in
          (sym (lower-from v f l) ∙ low, sym (high-compares v f h) ∙ high, opened),
      λ k.
          let all : list_all (holds v) cs ≡ true = and_from (holds v (lower l)) (list_all (holds v) (high_end h)) (lower-from v f l ∙ k.0) (high-compares v f h ∙ k.1) in
          let from_low : NamesPrerelease v l → range_allows v cs ≡ true = λ n. near-allowed v cs all (or_left _ _ (low-near v f l n)) in
          let from_high : NamesPrerelease v h → range_allows v cs ≡ true = λ n. near-allowed v cs all (or_right _ _ (high-near v f h n)) in
          elim k.2 [
            | inl o ↦ elim o [ inl r ↦ release-allowed v cs all r | inr n ↦ from_low n ]
            | inr o ↦ elim o [ inl r ↦ release-allowed v cs all r | inr n ↦ from_high n ]
          ],
    )

pub hyphen-allows : (low : List ℕ) (l : Prefix) (high : List ℕ) (h : Prefix) (v : VersionParts) → Says low l → Says high h → IsInForm v → AllowsHyphened low l high h v
hyphen-allows low l high h v s t f =
    let w = part-allows (hyphened low high) (hyphen l h) v (hyphen-value low l high h s t) in
    let q = hyphen-allowed l h v f in
    (λ a. q.0 (w.0 a), λ k. w.1 (q.1 k))

-- from the start is how a version compares
from-compared : (p : Prefix) (v : VersionParts) → IsInForm v → IsOpenTo v p → is_ge (precedence v (start_of p)) ≡ is_ge (compared v p)
from-compared p v f o = sym (lower-from v f p) ∙ lower-compares v f p o

pub open-above : IsOpenAbove
open-above low l high s t v f =
    let both = hyphen-allows low l high any v s t f in
    let one = greater_or_equal-allows low l v s f in
    let opened : IsOpenTo v l ⊎ IsOpenTo v any → IsOpenTo v l = λ o. elim o [ inl x ↦ x | inr x ↦ elim x [ inl r ↦ inl r | inr n ↦ absurd n ] ] in (
      λ a. let k = both.0 a in let o = opened k.2 in one.1 (sym (from-compared l v f o) ∙ k.0, o),
      λ a. let k = one.0 a in both.1 (from-compared l v f k.1 ∙ k.0, refl, inl k.1),
    )

-- a prerelease that is named is no prerelease of zeros
named-from : (h : Prefix) (v : VersionParts) → IsFrom (release 0 0 0) (start_of h) → NamesPrerelease v h → IsFrom (release 0 0 0) v
named-from any v e n = absurd n
named-from (major a) v e n = absurd n
named-from (minor a b) v e n = absurd n
named-from (full a b c []) v e n = absurd (n.0 refl)
named-from (full a b c (x ∷ pre)) v e n =
    let some : (length (x ∷ pre) == 0) ≡ false = grind (arith, nat_tests) in
    let numbers = above-zeros a b c (pre_cmp v.pre []) (rw some at e) in
    rw (← n.1, ← n.2, ← n.3) numbers

pub open-below : IsOpenBelow
open-below low high h s t e v f =
    let both = hyphen-allows low any high h v s t f in
    let one = less_or_equal-allows high h v t f in
    let opened : IsOpenTo v any ⊎ IsOpenTo v h → IsOpenTo v h = λ o. elim o [ inl x ↦ elim x [ inl r ↦ inl r | inr n ↦ absurd n ] | inr x ↦ x ] in
    let from : IsOpenTo v h → IsFrom (release 0 0 0) v = λ o. elim o [
      | inl r ↦ ap is_ge (release-cmp v 0 0 0 r) ∙ ge-none v.major v.minor v.patch
      | inr n ↦ named-from h v e n
    ] in
    (λ a. let k = both.0 a in one.1 (k.1, opened k.2), λ a. let k = one.0 a in both.1 (from k.1, k.0, inr k.1))

high-end-number : (h : Prefix) → h ≢ any → high_end h ≡ at_most h ∷ []
high-end-number any n = absurd (n refl)
high-end-number (major a) n = refl
high-end-number (minor a b) n = refl
high-end-number (full a b c pre) n = refl

pub between : IsBetween
between low l high h s t n v f =
    let x = part-allows (hyphened low high) (hyphen l h) v (hyphen-value low l high h s t) in
    let y = value-allows (codes ">=" ++ (low ++ (codes " <=" ++ high))) (simple op.GreaterEq l ∷ simple op.LessEq h ∷ [], []) v (between-value low l high h s t) in
    let same : range_allows v (comparators_of_part (hyphen l h)) ≡ set_allows v (comparators_of (simple op.GreaterEq l ∷ simple op.LessEq h ∷ [], [])) =
    rw (high-end-number h n) (sym (or-false _)) in
    (λ a. y.1 (sym same ∙ x.0 a), λ a. x.1 (same ∙ y.0 a))

-- ---- what follows at once

and-first : (b : Bool) → (b && true) ≡ true → b ≡ true
and-first b e = sym (and-true b) ∙ e

is-eq : (o : Ordering) → is_eq o ≡ true → o ≡ Ordering.Equal
is-eq o e = grind arith

own-allowed : (a b c : ℕ) (pre : List ℕ) → range_allows (start_of (full a b c pre)) (comparators_of_simple op.Bare (full a b c pre)) ≡ true
own-allowed a b c pre = near-or-release pre refl
  where
    it : VersionParts
    it = start_of (full a b c pre)

    holds-own : list_all (holds it) (comparators_of_simple op.Bare (full a b c pre)) ≡ true
    holds-own = rw (tied_itself precedence_total it) refl

    near-or-release : (rest : List ℕ) → pre ≡ rest → range_allows it (comparators_of_simple op.Bare (full a b c pre)) ≡ true
    near-or-release [] e = release-allowed it (comparators_of_simple op.Bare (full a b c pre)) holds-own e
    near-or-release (x ∷ rest) e =
        near-allowed it (comparators_of_simple op.Bare (full a b c pre)) holds-own (or_left _ _ (named-near it relation.Equal a b c pre (λ n. cc (e, n), refl, refl, refl)))

pub itself : AllowsItself
itself text a b c pre v s =
    let w = part-allows text (simple op.Bare (full a b c pre)) v (simple-value op.Bare text (full a b c pre) s) in (
      λ x. precedence_exact v (start_of (full a b c pre)) (is-eq _ (and-first _ (allowed-hold v (comparators_of_simple op.Bare (full a b c pre)) (w.0 x)))),
      λ e. w.1 (rw e (own-allowed a b c pre)),
    )

pub wildcards : WildcardsAllowReleases
wildcards text s v f =
    let w = alone-compares text any v s f in
    (λ a. elim (w.0 a).1 [ inl r ↦ r | inr n ↦ absurd n ], λ r. w.1 (refl, inl r))

pub none-above : AllowsNothing (codes ">")
none-above text v s f a = let h = (greater-allows text any v s f).0 a in cc h.0

pub none-below : AllowsNothing (codes "<")
none-below text v s f a = let h = (less-allows text any v s f).0 a in cc h.0

pub empty-allows : AllowsReleases []
empty-allows v f =
    let w = part-allows [] nothing v empty-value in
    let q = simple-allowed op.Bare any v f in
    let holds-zero : IsRelease v → list_all (holds v) (comparators_of_simple op.Bare any) ≡ true = λ r. same-compares v f any (inl r) in
    (λ a. elim (q.0 (w.0 a)).1 [ inl r ↦ r | inr n ↦ absurd n ], λ r. w.1 (q.1 (holds-zero r, inl r)))
