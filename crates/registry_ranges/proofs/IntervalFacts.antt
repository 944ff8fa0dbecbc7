-- A list of intervals in order covers what it did before, and a binary search finds a version in it.
use Rattle.std.proofs.Common.{◌≡◌, ◌+◌, ℕ, zero, suc, List, [], ◌∷◌, ◌++◌, Bool, true, false, not, ◌&&◌, ◌||◌, Option, Some, None, get_or, slice_get, refl, sym, ap, subst, ◌∙◌, inl, inr, arith}
use Rattle.std.proofs.lemmas.Bool.{cases_Bool, not-true, not-false, true≢false}
use Rattle.std.proofs.lemmas.List.Folds.{list_any-append}
use Rattle.std.proofs.lemmas.List.Sorted.{list_any-IsPermutation, ranks_by, sorted_far}
use Rattle.std.specs.Cmp.{IsStrictWeakOrder, IsTotalOrder, nat_cmp_total, on_total, then_total}
use Rattle.std.specs.List.{dedup, dedup_from}
use Rattle.std.specs.List.Sorted.{IsPartitionPoint, IsPartitionedBy, IsPermutation, IsSortedBy}
use Rattle.semver.specs.OrderLaws.{pre_total}
use Rattle.registry_names.specs.Versions.{VersionParts}
use Rattle.registry_ranges.specs.declared.end.Place.TheVariants.{Before}
use Rattle.registry_ranges.specs.Intervals.{End, Interval, Ascend, AscendFrom, CoverTheSame, CoversMore, beside, comes_before, covers, end_cmp, ends_by, is_below, level, side, some_covers}

-- ---- the order of places

pub end_total : IsTotalOrder end_cmp
end_total = then_total (on_total (λ (e : End). e.major) nat_cmp_total) (then_total (on_total (λ (e : End). e.minor) nat_cmp_total)
    (then_total (on_total (λ (e : End). e.patch) nat_cmp_total) (then_total (on_total (λ (e : End). level e.place) nat_cmp_total)
    (then_total (on_total (λ (e : End). e.pre) pre_total) (on_total (λ (e : End). side e.place) nat_cmp_total)))))

pub below_order : IsStrictWeakOrder is_below
below_order = ranks_by end_total (λ (e : End). e)

pub low_order : IsStrictWeakOrder (λ (x y : Interval). is_below x.low y.low)
low_order = ranks_by end_total (λ (i : Interval). i.low)

pub high_order : IsStrictWeakOrder (λ (x y : Interval). is_below x.high y.high)
high_order = ranks_by end_total (λ (i : Interval). i.high)

pub chain : (x y z : End) → is_below x y ≡ false → is_below y z ≡ false → is_below x z ≡ false
chain = below_order.chain

-- what is before a place is before those after it
pub before-later : (p a b : End) → is_below b a ≡ false → is_below p a ≡ true → is_below p b ≡ true
before-later p a b up h = elim (cases_Bool (is_below p b)) [
  | inl below ↦ below
  | inr late ↦ absurd (true≢false (sym h ∙ chain p b a late up))
]

-- ---- without what another covers

-- each starts no earlier than the one before it
abbrev Rises : Interval → List Interval → Type 0
Rises x [] = Unit {0}
Rises x (y ∷ rest) = (is_below y.low x.low ≡ false) × Rises y rest

rises-lower : (k x : Interval) (rest : List Interval) → is_below x.low k.low ≡ false → Rises x rest → Rises k rest
rises-lower k x [] up r = tt
rises-lower k x (y ∷ rest) up r = (chain y.low x.low k.low r.0 up, r.1)

-- what an interval covers, one that starts no later and ends no earlier does
covers-more : (v : VersionParts) (x k : Interval) → is_below x.low k.low ≡ false → ends_by x k ≡ true → covers v x ≡ true → covers v k ≡ true
covers-more v x k up by h =
    let p = beside Before v in
    elim (cases_Bool (is_below p x.low)) [
      | inl early ↦ cc (rw early at h)
      | inr low ↦
          let high : is_below p x.high ≡ true = rw low at h in
          rw (chain p x.low k.low low up, before-later p x.high k.high (not-true (is_below k.high x.high) by) high) refl
    ]

absorb : (a b r : Bool) → (b ≡ true → a ≡ true) → (a || r) ≡ (a || (b || r))
absorb true b r h = refl
absorb false false r h = refl
absorb false true r h = cc (h refl)

dedup-from-covers : (v : VersionParts) (k : Interval) (xs : List Interval) → Rises k xs → some_covers v (dedup_from ends_by k xs) ≡ (covers v k || some_covers v xs)
dedup-from-covers v k [] r = refl
dedup-from-covers v k (x ∷ xs) r = elim (cases_Bool (ends_by x k)) [
  | inl by ↦ rw by (dedup-from-covers v k xs (rises-lower k x xs r.0 r.1) ∙ absorb (covers v k) (covers v x) (some_covers v xs) (covers-more v x k r.0 by))
  | inr on ↦ rw on (ap (λ b. covers v k || b) (dedup-from-covers v x xs r.1))
]

-- what is left ascends
ascends-on : (j k : Interval) (xs : List Interval) → is_below k.low j.low ≡ false → is_below k.high j.high ≡ false → Rises k xs → AscendFrom j (dedup_from ends_by k xs)
ascends-on j k [] low high r = (low, high, tt)
ascends-on j k (x ∷ xs) low high r = elim (cases_Bool (ends_by x k)) [
  | inl by ↦ rw by (ascends-on j k xs low high (rises-lower k x xs r.0 r.1))
  | inr on ↦ rw on (low, high, ascends-on k x xs r.0 (below_order.one_way k.high x.high (not-false (is_below k.high x.high) on)) r.1)
]

dedup-from-ascends : (k : Interval) (xs : List Interval) → Rises k xs → Ascend (dedup_from ends_by k xs)
dedup-from-ascends k [] r = tt
dedup-from-ascends k (x ∷ xs) r = elim (cases_Bool (ends_by x k)) [
  | inl by ↦ rw by (dedup-from-ascends k xs (rises-lower k x xs r.0 r.1))
  | inr on ↦ rw on (ascends-on k x xs r.0 (below_order.one_way k.high x.high (not-false (is_below k.high x.high) on)) r.1)
]

suc-more : (k : ℕ) → suc k + 1 ≡ suc (k + 1)
suc-more k = omega arith

-- what a sort gives
abbrev pub IsSortedByLow : List Interval → Type 0
IsSortedByLow xs = IsSortedBy (λ (x y : Interval). is_below x.low y.low) xs

sorted-rises : (x : Interval) (xs : List Interval) → IsSortedByLow (x ∷ xs) → Rises x xs
sorted-rises x [] s = tt
sorted-rises x (y ∷ xs) s = (
  s 0 x (omega arith) (omega arith),
  sorted-rises y xs (λ k d l h. subst (λ (n : ℕ). is_below (get_or (x ∷ y ∷ xs) n d).low (get_or (x ∷ y ∷ xs) (suc k) d).low ≡ false) (suc-more k) (s (suc k) d (omega arith) (omega arith))),
)

pub dedup-covers : (xs : List Interval) → IsSortedByLow xs → CoverTheSame xs (dedup ends_by xs)
dedup-covers [] s v = refl
dedup-covers (x ∷ xs) s v = sym (dedup-from-covers v x xs (sorted-rises x xs s))

pub dedup-ascends : (xs : List Interval) → IsSortedByLow xs → Ascend (dedup ends_by xs)
dedup-ascends [] s = tt
dedup-ascends (x ∷ xs) s = dedup-from-ascends x xs (sorted-rises x xs s)

pub ordered-covers : (old sorted new : List Interval) → IsPermutation old sorted → IsSortedByLow sorted → new ≡ dedup ends_by sorted → CoverTheSame old new
ordered-covers old sorted new p s e v = list_any-IsPermutation (covers v) old sorted p ∙ dedup-covers sorted s v ∙ ap (some_covers v) (sym e)

pub ordered-ascends : (sorted new : List Interval) → IsSortedByLow sorted → new ≡ dedup ends_by sorted → Ascend new
ordered-ascends sorted new s e = rw e (dedup-ascends sorted s)

-- ---- one interval more

one-more : (v : VersionParts) (old : List Interval) (more : Interval) → some_covers v (old ++ more ∷ []) ≡ (some_covers v old || covers v more)
one-more v old more = list_any-append (covers v) old (more ∷ []) ∙ ap (λ b. some_covers v old || b) (or-false (covers v more))
  where
    or-false : (b : Bool) → (b || false) ≡ b
    or-false true = refl
    or-false false = refl

pub pushed-covers : (old new : List Interval) (more : Interval) → new ≡ old ++ more ∷ [] → CoversMore old new more
pushed-covers old new more e v = rw e (one-more v old more)

pub pushed-ordered : (old pushed new : List Interval) (more : Interval) → pushed ≡ old ++ more ∷ [] → CoverTheSame pushed new → CoversMore old new more
pushed-ordered old pushed new more e same v = sym (same v) ∙ pushed-covers old pushed more e v

pub ruleset add_facts = (pushed-covers, pushed-ordered)

-- ---- the search

abbrev pub ends_before : VersionParts → Interval → Bool
ends_before v i = not (comes_before v i.high)

sorted-by-high : (x : Interval) (xs : List Interval) → AscendFrom x xs → IsSortedBy (λ (a b : Interval). is_below a.high b.high) (x ∷ xs)
sorted-by-high x [] a k d l h = absurd (omega arith)
sorted-by-high x (y ∷ xs) a zero d l h = a.1
sorted-by-high x (y ∷ xs) a (suc k) d l h =
    subst (λ (n : ℕ). is_below (get_or (x ∷ y ∷ xs) n d).high (get_or (x ∷ y ∷ xs) (suc k) d).high ≡ false) (sym (suc-more k)) (sorted-by-high y xs a.2 k d (omega arith) (omega arith))

all-sorted-by-high : (xs : List Interval) → Ascend xs → IsSortedBy (λ (a b : Interval). is_below a.high b.high) xs
all-sorted-by-high [] a k d l h = absurd (omega arith)
all-sorted-by-high (x ∷ xs) a k d l h = sorted-by-high x xs a k d l h

pub parted : (v : VersionParts) (xs : List Interval) → Ascend xs → IsPartitionedBy (ends_before v) xs
parted v xs a i j d le lt h =
    let far = sorted_far (λ (x y : Interval). is_below x.high y.high) high_order xs (all-sorted-by-high xs a) i j d le lt in
    ap not (chain (beside Before v) (get_or xs j d).high (get_or xs i d).high (not-true (comes_before v (get_or xs j d).high) h) far)

-- whether the interval at the place starts before the version
abbrev pub starts_at : VersionParts → Option Interval → Bool
starts_at v None = false
starts_at v (Some i) = not (comes_before v i.low)

none-later : (v : VersionParts) (x : Interval) (xs : List Interval) → AscendFrom x xs → comes_before v x.low ≡ true → some_covers v xs ≡ false
none-later v x [] a h = refl
none-later v x (y ∷ xs) a h =
    let low = before-later (beside Before v) x.low y.low a.0 h in
    rw low (none-later v y xs a.2 low)

and-false : (b : Bool) → (b && false) ≡ false
and-false true = refl
and-false false = refl

abbrev IsPlace : VersionParts → List Interval → ℕ → Type 0
IsPlace v xs place = IsPartitionPoint (λ i. ends_before v i ≡ true) (λ i. ends_before v i ≡ false) xs place

ascend-tail : (x : Interval) (xs : List Interval) → AscendFrom x xs → Ascend xs
ascend-tail x [] a = tt
ascend-tail x (y ∷ xs) a = a.2

place-tail : (v : VersionParts) (x : Interval) (xs : List Interval) (place : ℕ) → IsPlace v (x ∷ xs) (suc place) → IsPlace v xs place
place-tail v x xs place p = (λ k d l h. p.0 (suc k) d (omega arith) (omega arith), λ k d l h. p.1 (suc k) d (omega arith) (omega arith))

pub found : (v : VersionParts) (xs : List Interval) (place : ℕ) → Ascend xs → IsPlace v xs place → starts_at v (slice_get xs place) ≡ some_covers v xs
found v [] place a p = refl
found v (x ∷ xs) zero a p =
    let ends : comes_before v x.high ≡ true = not-false (comes_before v x.high) (p.1 0 x (omega arith) (omega arith)) in
    elim (cases_Bool (comes_before v x.low)) [
      | inl early ↦ rw (early, none-later v x xs a early) refl
      | inr low ↦ rw (low, ends) refl
    ]
found v (x ∷ xs) (suc place) a p =
    let ended : comes_before v x.high ≡ false = not-true (comes_before v x.high) (p.0 0 x (omega arith) (omega arith)) in
    found v xs place (ascend-tail x xs a) (place-tail v x xs place p) ∙ rw (ended, and-false (not (comes_before v x.low))) refl
