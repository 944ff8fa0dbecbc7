-- Rows that rise: those that compare as equal to what is asked stand together.
use Rattle.std.proofs.Common.{◌≡◌, ◌∙◌, ◌==◌, ne_eqb, find, slice_get, Some, ℕ, suc, ◌+◌, ◌<◌, ◌≤◌, Bool, true, false, not, cond, ◌||◌, List, [], ◌∷◌, ◌++◌, length, take, drop, get_or, arith, refl, sym, ap, ap₂, subst, true≢false, append-nil, Ordering, Less, Equal, Greater, is_lt, is_eq}
use Rattle.std.specs.Cmp.{IsTotalOrder}
use Rattle.std.specs.List.{AllWithin, IsAllAdjacentAnswer, filter, list_any}
use Rattle.std.specs.List.Sorted.{IsNonDecreasingBy, IsPartitionPoint, IsPartitionedBy, IsSortedByKey}
use Rattle.std.specs.Ordering.{ordering_index, ordering_then}
use Rattle.std.proofs.lemmas.List.{get_or-take, get_or-drop, length-take-le, length-drop, take-append-drop}
use Rattle.std.proofs.lemmas.List.Elements.{filter-append}
use Rattle.std.proofs.lemmas.List.Sorted.{searchable_from_sorted}
use Rattle.registry_names.specs.Keys.{by_first}
use Rattle.registry_names.specs.Texts.{Text, text_cmp}

low : (a b : Ordering) → ordering_index a ≤ ordering_index b → is_lt b ≡ true → is_lt a ≡ true
low Less b h e = refl
low Equal Less h e = absurd (omega (arith, h))
low Greater Less h e = absurd (omega (arith, h))
low a Equal h e = absurd (true≢false (sym e))
low a Greater h e = absurd (true≢false (sym e))

between : (a b : Ordering) → is_lt a ≡ false → ordering_index a ≤ ordering_index b → is_eq b ≡ true → is_eq a ≡ true
between Less b l h e = absurd (true≢false l)
between Equal b l h e = refl
between Greater Equal l h e = absurd (omega (arith, h))
between Greater Less l h e = absurd (true≢false (sym e))
between Greater Greater l h e = e

no_tie : (o : Ordering) → is_lt o ≡ true → is_eq o ≡ false
no_tie Less e = refl
no_tie Equal e = absurd (true≢false (sym e))
no_tie Greater e = refl

module _ {X : Type 0} (p : X → Bool) where
  pub filter_none : (xs : List X) → ((k : ℕ) (d : X) → k < length xs → p (get_or xs k d) ≡ false) → filter p xs ≡ []
  filter_none [] h = refl
  filter_none (x ∷ xs) h = ap (λ b. cond b (x ∷ filter p xs) (filter p xs)) (h 0 x (omega arith)) ∙ filter_none xs (λ k d within. h (suc k) d (omega (arith, within)))

  pub filter_all : (xs : List X) → ((k : ℕ) (d : X) → k < length xs → p (get_or xs k d) ≡ true) → filter p xs ≡ xs
  filter_all [] h = refl
  filter_all (x ∷ xs) h =
      ap (λ b. cond b (x ∷ filter p xs) (filter p xs)) (h 0 x (omega arith)) ∙ ap (λ ys. x ∷ ys) (filter_all xs (λ k d within. h (suc k) d (omega (arith, within))))

  -- what passes stands together, where none before it does and none after it
  passes_together : (xs : List X) (i : ℕ) → i ≤ length xs → AllWithin (λ x. p x ≡ true) xs 0 i → AllWithin (λ x. p x ≡ false) xs i (length xs) → filter p xs ≡ take i xs
  passes_together xs i within pass fail =
      ap (filter p) (sym (take-append-drop i xs)) ∙ filter-append p (take i xs) (drop i xs)
      ∙ ap₂ (λ ys zs. ys ++ zs)
      (filter_all (take i xs) (λ k d l.
      let below : k < i = omega (arith, l, length-take-le i xs within) in
      ap p (get_or-take i xs k d below) ∙ pass k d (omega arith) below))
      (filter_none (drop i xs) (λ k d l. ap p (get_or-drop i xs k d) ∙ fail (i + k) d (omega arith) (omega (arith, l, length-drop i xs))))
      ∙ append-nil (take i xs)

module _ {X : Type 0} (ord : X → Ordering) (xs : List X) (up : IsNonDecreasingBy (λ x. ordering_index (ord x)) xs) where
  -- those that are lower come first
  pub lower_first : IsPartitionedBy (λ x. is_lt (ord x)) xs
  lower_first i j d le within e = low (ord (get_or xs i d)) (ord (get_or xs j d)) (up i j d le within) e

  module _ (start : ℕ) (within_start : start ≤ length xs) (first : IsPartitionPoint (λ x. is_lt (ord x) ≡ true) (λ x. is_lt (ord x) ≡ false) xs start) where
    rest_low : (k : ℕ) (d : X) → k < length (drop start xs) → is_lt (ord (get_or (drop start xs) k d)) ≡ false
    rest_low k d l = ap (λ x. is_lt (ord x)) (get_or-drop start xs k d) ∙ first.1 (start + k) d (omega arith) (omega (arith, l, length-drop start xs))

    -- and of the rest those that tie
    pub ties_first : IsPartitionedBy (λ x. is_eq (ord x)) (drop start xs)
    ties_first i j d le within e =
        let long = length-drop start xs in
        between (ord (get_or (drop start xs) i d)) (ord (get_or (drop start xs) j d)) (rest_low i d (omega (arith, le, within)))
        (subst (λ x. ordering_index (ord x) ≤ ordering_index (ord (get_or (drop start xs) j d))) (sym (get_or-drop start xs i d))
        (subst (λ x. ordering_index (ord (get_or xs (start + i) d)) ≤ ordering_index (ord x)) (sym (get_or-drop start xs j d))
        (up (start + i) (start + j) d (omega (arith, le)) (omega (arith, within, long))))) e

    -- these are the rows that tie
    pub rows_that_tie : (count : ℕ) → count ≤ length (drop start xs) → IsPartitionPoint (λ x. is_eq (ord x) ≡ true) (λ x. is_eq (ord x) ≡ false) (drop start xs) count
        → filter (λ x. is_eq (ord x)) xs ≡ take count (drop start xs)
    rows_that_tie count within second =
        ap (filter (λ x. is_eq (ord x))) (sym (take-append-drop start xs)) ∙ filter-append (λ x. is_eq (ord x)) (take start xs) (drop start xs)
        ∙ ap₂ (λ ys zs. ys ++ zs)
        (filter_none (λ x. is_eq (ord x)) (take start xs) (λ k d l.
        let below : k < start = omega (arith, l, length-take-le start xs within_start) in
        ap (λ x. is_eq (ord x)) (get_or-take start xs k d below) ∙ no_tie _ (first.0 k d (omega arith) below)))
        (passes_together (λ x. is_eq (ord x)) (drop start xs) count within second.0 second.1)

-- ---- what rises by a key rises by how its key compares

module _ {X K : Type 0} {cmp : K → K → Ordering} (total : IsTotalOrder cmp) (key : X → K) where
  pub rises : (xs : List X) (k : K) → IsSortedByKey key cmp xs → IsNonDecreasingBy (λ x. ordering_index (cmp (key x) k)) xs
  rises xs k up = searchable_from_sorted total key xs k up

not_lower : (a b : Ordering) → is_lt (ordering_then a b) ≡ false → is_lt a ≡ false
not_lower Less b e = e
not_lower Equal b e = refl
not_lower Greater b e = refl

-- and by its first text
pub rises_by_first : {X R : Type 0} (cmp : R → R → Ordering) (key : X → Text × R) (xs : List X) → IsSortedByKey key (by_first cmp) xs → IsSortedByKey (λ x. (key x).0) text_cmp xs
unfolding by_first
rises_by_first cmp key xs up k d low within = not_lower _ _ (up k d low within)

never_lower : (b : Bool) → true ≡ not b → b ≡ false
never_lower true e = absurd (true≢false e)
never_lower false e = refl

-- what the test of neighbours says
pub sorted_if : {X K : Type 0} (key : X → K) (cmp : K → K → Ordering) (xs : List X) (r : Bool) → IsAllAdjacentAnswer (λ x y b. b ≡ not (is_lt (cmp (key y) (key x)))) xs r → r ≡ true → IsSortedByKey key cmp xs
sorted_if key cmp xs true h e = λ k d floor within. never_lower _ (h k d within)
sorted_if key cmp xs false h e = absurd (true≢false (sym e))

-- ---- what is kept

module _ {X : Type 0} (p : X → Bool) where
  -- some are kept where one passes
  pub some_kept : (xs : List X) → not (length (filter p xs) == 0) ≡ list_any p xs
  some_kept [] = refl
  some_kept (x ∷ xs) = each (some_kept xs) (p x)
    where
      each : not (length (filter p xs) == 0) ≡ list_any p xs → (b : Bool) → not (length (cond b (x ∷ filter p xs) (filter p xs)) == 0) ≡ (b || list_any p xs)
      each next true = ap not (ne_eqb _ 0 (omega arith))
      each next false = next

  -- and the first that is kept is the first that passes
  pub first_kept : (xs : List X) → slice_get (filter p xs) 0 ≡ find p xs
  first_kept [] = refl
  first_kept (x ∷ xs) = each (first_kept xs) (p x)
    where
      each : slice_get (filter p xs) 0 ≡ find p xs → (b : Bool) → slice_get (cond b (x ∷ filter p xs) (filter p xs)) 0 ≡ cond b (Some x) (find p xs)
      each next true = refl
      each next false = next
