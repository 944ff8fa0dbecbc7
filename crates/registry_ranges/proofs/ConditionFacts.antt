-- The interval of a condition covers what meets it, and the interval of a range what it selects.
use Rattle.std.proofs.Common.{◌≡◌, ◌≤◌, ◌+◌, ◌==◌, ℕ, List, [], ◌∷◌, ◌++◌, Bool, true, false, not, ◌&&◌, ◌||◌, cond, if◌then◌else◌, nat_lt, Ordering, Less, Equal, Greater, nat_cmp, refl, sym, ap, ◌∙◌, inl, inr, arith}
use Rattle.std.proofs.lemmas.Bool.{cases_Bool}
use Rattle.std.proofs.lemmas.Bool.Decides.{nat_tests}
use Rattle.std.proofs.lemmas.List.Folds.{list_all-append, list_any-append}
use Rattle.std.specs.Cmp.{both_ways}
use Rattle.std.specs.List.{list_all}
use Rattle.std.specs.Ordering.{is_eq, is_ge, is_gt, is_le, is_lt, ordering_then}
use Rattle.semver.specs.Order.{pre_cmp}
use Rattle.registry_names.specs.Versions.{VersionParts, greatest_number, precedence}
use Rattle.registry_ranges.specs.declared.end.Place.TheVariants.{Before, After}
use Rattle.registry_ranges.specs.declared.relation.Relation.{Relation}
use Rattle.registry_ranges.specs.declared.relation.Relation.TheVariants as relation
use Rattle.registry_ranges.specs.Comparators.{meets}
use Rattle.registry_ranges.specs.Intervals.{End, Interval, CoversMore, CoverTheSame, CoverWhat, beside, comes_before, covers, earlier, first, interval_of, interval_of_relation, is_below, last, later, meet, some_covers, start, whole}
use Rattle.registry_ranges.specs.Selectors.{Condition, all, has_major, has_minor, compared, meets_condition, set_selects}
use Rattle.registry_ranges.proofs.IntervalFacts.{before-later, below_order}

-- ---- places beside a version

then-lt : (o r s : Ordering) → is_lt r ≡ is_lt s → is_lt (ordering_then o r) ≡ is_lt (ordering_then o s)
then-lt Less r s h = refl
then-lt Equal r s h = h
then-lt Greater r s h = refl

tie-lt : (q : Ordering) → is_lt (ordering_then q Equal) ≡ is_lt q
tie-lt Less = refl
tie-lt Equal = refl
tie-lt Greater = refl

before-is : (v w : VersionParts) → comes_before v (beside Before w) ≡ is_lt (precedence v w)
before-is v w =
    let q = pre_cmp v.pre w.pre in
    let p = nat_cmp v.patch w.patch in
    let m = nat_cmp v.minor w.minor in
    let patches = then-lt p (ordering_then q Equal) q (tie-lt q) in
    let minors = then-lt m (ordering_then p (ordering_then q Equal)) (ordering_then p q) patches in
    then-lt (nat_cmp v.major w.major) (ordering_then m (ordering_then p (ordering_then q Equal))) (ordering_then m (ordering_then p q)) minors

then-le : (o r s : Ordering) → is_lt r ≡ is_le s → is_lt (ordering_then o r) ≡ is_le (ordering_then o s)
then-le Less r s h = refl
then-le Equal r s h = h
then-le Greater r s h = refl

tie-le : (q : Ordering) → is_lt (ordering_then q Less) ≡ is_le q
tie-le Less = refl
tie-le Equal = refl
tie-le Greater = refl

after-is : (v w : VersionParts) → comes_before v (beside After w) ≡ is_le (precedence v w)
after-is v w =
    let q = pre_cmp v.pre w.pre in
    let p = nat_cmp v.patch w.patch in
    let m = nat_cmp v.minor w.minor in
    let patches = then-le p (ordering_then q Less) q (tie-le q) in
    let minors = then-le m (ordering_then p (ordering_then q Less)) (ordering_then p q) patches in
    then-le (nat_cmp v.major w.major) (ordering_then m (ordering_then p (ordering_then q Less))) (ordering_then m (ordering_then p q)) minors

-- ---- places at the start of some numbers

number-first : (s t : Bool) (r : Ordering) → is_lt r ≡ false → is_lt (ordering_then (cond s Less (cond t Equal Greater)) r) ≡ s
number-first true t r h = refl
number-first false true r h = h
number-first false false r h = refl

zero-first : (n : ℕ) (r : Ordering) → is_lt r ≡ false → is_lt (ordering_then (nat_cmp n 0) r) ≡ false
zero-first n r h =
    let none : nat_lt n 0 ≡ false = grind (arith, nat_tests) in
    number-first (nat_lt n 0) (n == 0) r h ∙ none

-- what follows the numbers is at the start, which comes before no version with these numbers
abbrev start_rest : List ℕ → Ordering
start_rest pre = ordering_then (nat_cmp 1 0) (ordering_then (pre_cmp pre []) (nat_cmp 0 0))

patch-first : (v : VersionParts) → is_lt (ordering_then (nat_cmp v.patch 0) (start_rest v.pre)) ≡ false
patch-first v = zero-first v.patch (start_rest v.pre) refl

minor-first : (v : VersionParts) → is_lt (ordering_then (nat_cmp v.minor 0) (ordering_then (nat_cmp v.patch 0) (start_rest v.pre))) ≡ false
minor-first v = zero-first v.minor _ (patch-first v)

major-is : (v : VersionParts) (a : ℕ) → comes_before v (start a 0 0) ≡ nat_lt v.major a
major-is v a = number-first (nat_lt v.major a) (v.major == a) _ (minor-first v)

two-first : (s t : Bool) (r : Ordering) (u : Bool) → is_lt r ≡ u → is_lt (ordering_then (cond s Less (cond t Equal Greater)) r) ≡ (s || (t && u))
two-first true t r u h = refl
two-first false true r u h = h
two-first false false r u h = refl

minor-is : (v : VersionParts) (a b : ℕ) → comes_before v (start a b 0) ≡ (nat_lt v.major a || ((v.major == a) && nat_lt v.minor b))
minor-is v a b = two-first (nat_lt v.major a) (v.major == a) _ (nat_lt v.minor b) (number-first (nat_lt v.minor b) (v.minor == b) _ (patch-first v))

between : (m a : ℕ) → (not (nat_lt m a) && nat_lt m (a + 1)) ≡ (m == a)
between m a = both_ways (not (nat_lt m a) && nat_lt m (a + 1)) (m == a) (λ h. grind (arith, nat_tests)) (λ h. grind (arith, nat_tests))

below-differs : (m a : ℕ) → nat_lt m a ≡ true → (m == a) ≡ false
below-differs m a h = grind (arith, nat_tests)

two-between : (s t u w e : Bool) → (s ≡ true → t ≡ false) → (not u && w) ≡ e → (not (s || (t && u)) && (s || (t && w))) ≡ (t && e)
two-between true t u w e d h = rw (d refl) refl
two-between false true u w e d h = h
two-between false false u w e d h = refl

-- ---- the interval of a condition

first-is : (v : VersionParts) → comes_before v first ≡ false
first-is v = let none : nat_lt v.major 0 ≡ false = grind (arith, nat_tests) in major-is v 0 ∙ none

last-is : (v : VersionParts) → v.major ≤ greatest_number → comes_before v last ≡ true
last-is v h = let below : nat_lt v.major (greatest_number + 1) ≡ true = grind (arith, nat_tests) in major-is v (greatest_number + 1) ∙ below

-- by what is known of its ends
covers-by : (v : VersionParts) (i : Interval) (s t : Bool) → comes_before v i.low ≡ s → comes_before v i.high ≡ t → covers v i ≡ (not s && t)
covers-by v i s t a b k = not (a k) && b k

pub whole-covers : (v : VersionParts) → v.major ≤ greatest_number → covers v whole ≡ true
whole-covers v h = covers-by v whole false true (first-is v) (last-is v h)

and-true : (b : Bool) → (b && true) ≡ b
and-true true = refl
and-true false = refl

not-lt : (o : Ordering) → not (is_lt o) ≡ is_ge o
not-lt Less = refl
not-lt Equal = refl
not-lt Greater = refl

not-le : (o : Ordering) → not (is_le o) ≡ is_gt o
not-le Less = refl
not-le Equal = refl
not-le Greater = refl

lt-le : (o : Ordering) → (not (is_lt o) && is_le o) ≡ is_eq o
lt-le Less = refl
lt-le Equal = refl
lt-le Greater = refl

relation-covers : (r : Relation) (v w : VersionParts) → v.major ≤ greatest_number → covers v (interval_of_relation r w) ≡ meets r (precedence v w)
relation-covers relation.Less v w h = covers-by v (interval_of_relation relation.Less w) false (is_lt (precedence v w)) (first-is v) (before-is v w)
relation-covers relation.LessEq v w h = covers-by v (interval_of_relation relation.LessEq w) false (is_le (precedence v w)) (first-is v) (after-is v w)
relation-covers relation.Greater v w h =
    let o = precedence v w in
    covers-by v (interval_of_relation relation.Greater w) (is_le o) true (after-is v w) (last-is v h) ∙ and-true (not (is_le o)) ∙ not-le o
relation-covers relation.GreaterEq v w h =
    let o = precedence v w in
    covers-by v (interval_of_relation relation.GreaterEq w) (is_lt o) true (before-is v w) (last-is v h) ∙ and-true (not (is_lt o)) ∙ not-lt o
relation-covers relation.Equal v w h =
    let o = precedence v w in
    covers-by v (interval_of_relation relation.Equal w) (is_lt o) (is_le o) (before-is v w) (after-is v w) ∙ lt-le o

pub condition-covers : (c : Condition) (v : VersionParts) → v.major ≤ greatest_number → covers v (interval_of c) ≡ meets_condition v c
condition-covers all v h = whole-covers v h
condition-covers (has_major a) v h =
    covers-by v (interval_of (has_major a)) (nat_lt v.major a) (nat_lt v.major (a + 1)) (major-is v a) (major-is v (a + 1)) ∙ between v.major a
condition-covers (has_minor a b) v h =
    let s = nat_lt v.major a in
    let t = v.major == a in
    let u = nat_lt v.minor b in
    let w = nat_lt v.minor (b + 1) in
    covers-by v (interval_of (has_minor a b)) (s || (t && u)) (s || (t && w)) (minor-is v a b) (minor-is v a (b + 1))
    ∙ two-between s t u w (v.minor == b) (below-differs v.major a) (between v.minor b)
condition-covers (compared c) v h = relation-covers c.relation v c.bound h

-- ---- the versions in two intervals

or-second : (s t : Bool) → (s ≡ true → t ≡ true) → t ≡ (s || t)
or-second true t h = h refl
or-second false t h = refl

or-first : (s t : Bool) → (t ≡ true → s ≡ true) → s ≡ (s || t)
or-first true t h = refl
or-first false true h = h refl
or-first false false h = refl

and-second : (s t : Bool) → (t ≡ true → s ≡ true) → t ≡ (s && t)
and-second true t h = refl
and-second false true h = sym (h refl)
and-second false false h = refl

and-first : (s t : Bool) → (s ≡ true → t ≡ true) → s ≡ (s && t)
and-first true t h = sym (h refl)
and-first false t h = refl

later-is : (p a b : End) → is_below p (later a b) ≡ (is_below p a || is_below p b)
later-is p a b = elim (cases_Bool (is_below a b)) [
  | inl up ↦ ap (λ (c : Bool). is_below p (if c then b else a)) up ∙ or-second (is_below p a) (is_below p b) (before-later p a b (below_order.one_way a b up))
  | inr down ↦ ap (λ (c : Bool). is_below p (if c then b else a)) down ∙ or-first (is_below p a) (is_below p b) (before-later p b a down)
]

earlier-is : (p a b : End) → is_below p (earlier a b) ≡ (is_below p a && is_below p b)
earlier-is p a b = elim (cases_Bool (is_below b a)) [
  | inl up ↦ ap (λ (c : Bool). is_below p (if c then b else a)) up ∙ and-second (is_below p a) (is_below p b) (before-later p b a (below_order.one_way b a up))
  | inr down ↦ ap (λ (c : Bool). is_below p (if c then b else a)) down ∙ and-first (is_below p a) (is_below p b) (before-later p a b down)
]

both : (a b c d : Bool) → (not (a || b) && (c && d)) ≡ ((not a && c) && (not b && d))
both true b c d = refl
both false true true d = refl
both false true false d = refl
both false false c d = refl

pub meet-covers : (v : VersionParts) (x y : Interval) → covers v (meet x y) ≡ (covers v x && covers v y)
meet-covers v x y =
    let a = comes_before v x.low in
    let b = comes_before v y.low in
    let c = comes_before v x.high in
    let d = comes_before v y.high in
    covers-by v (meet x y) (a || b) (c && d) (later-is (beside Before v) x.low y.low) (earlier-is (beside Before v) x.high y.high) ∙ both a b c d

-- ---- ranges and sets

-- the interval covers the versions that meet all conditions
abbrev pub CoversWhat : List Condition → Interval → Type 0
CoversWhat range i = (v : VersionParts) → v.major ≤ greatest_number → covers v i ≡ list_all (meets_condition v) range

pub no-conditions : (i : Interval) → i ≡ whole → CoversWhat [] i
no-conditions i e v h = ap (covers v) e ∙ whole-covers v h

all-more : (t : Condition → Bool) (range : List Condition) (c : Condition) → list_all t (range ++ c ∷ []) ≡ (list_all t range && t c)
all-more t range c = list_all-append t range (c ∷ []) ∙ ap (λ (b : Bool). list_all t range && b) (and-true (t c))

pub one-condition : (range : List Condition) (i new : Interval) (c : Condition) → CoversWhat range i → new ≡ meet i (interval_of c) → CoversWhat (range ++ c ∷ []) new
one-condition range i new c w e v h =
    let each : (covers v i && covers v (interval_of c)) ≡ (list_all (meets_condition v) range && meets_condition v c) = λ k. w v h k && condition-covers c v h k in
    ap (covers v) e ∙ meet-covers v i (interval_of c) ∙ each ∙ sym (all-more (meets_condition v) range c)

pub no-ranges : (is : List Interval) → is ≡ [] → CoverWhat [] is
no-ranges is e v h = ap (some_covers v) e

or-false : (b : Bool) → (b || false) ≡ b
or-false true = refl
or-false false = refl

more-selects : (v : VersionParts) (done : List (List Condition)) (range : List Condition) → set_selects v (done ++ range ∷ []) ≡ (set_selects v done || list_all (meets_condition v) range)
more-selects v done range = list_any-append (list_all (meets_condition v)) done (range ∷ []) ∙ ap (λ (b : Bool). set_selects v done || b) (or-false (list_all (meets_condition v) range))

pub one-range : (done : List (List Condition)) (range : List Condition) (old new : List Interval) (i : Interval)
    → CoverWhat done old → CoversWhat range i → CoversMore old new i → CoverWhat (done ++ range ∷ []) new
one-range done range old new i w r m v h =
    let each : (some_covers v old || covers v i) ≡ (set_selects v done || list_all (meets_condition v) range) = λ k. w v h k || r v h k in
    m v ∙ each ∙ sym (more-selects v done range)

-- the same versions in another list
pub same-what : (ranges : List (List Condition)) (old new : List Interval) → CoverWhat ranges old → CoverTheSame old new → CoverWhat ranges new
same-what ranges old new w same v h = sym (same v) ∙ w v h
