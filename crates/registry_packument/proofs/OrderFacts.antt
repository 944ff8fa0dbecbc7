-- Rows each of which is below the next are in order, and no others.
use Rattle.std.proofs.Common.{◌≡◌, ℕ, zero, suc, ◌+◌, ◌<◌, Bool, true, false, List, [], ◌∷◌, length, map, get_or, refl, ap, sym, ◌∙◌, subst, arith, is_lt, Less, true≢false}
use Rattle.std.proofs.lemmas.Bool.{and_parts, and_from}
use Rattle.std.specs.Bool.{IsTrue}
use Rattle.std.specs.FinMap.Entries.{below_all}
use Rattle.std.specs.List.{IsAllAdjacentAnswer}
use Rattle.std.specs.declared.cmp.Ordering.{Ordering}
use Rattle.std.specs.declared.cmp.Ordering.TheVariants.{Equal, Greater}
use Rattle.registry_names.specs.Texts.{Text, text_cmp}
use Rattle.registry_names.specs.Maps.{rises}
use Rattle.registry_names.proofs.TextFacts.{text_total}

less : (o : Ordering) → is_lt o ≡ true → o ≡ Less
less Less e = refl
less Equal e = absurd (true≢false (sym e))
less Greater e = absurd (true≢false (sym e))

-- what is below a text is below all that the text is below
pub below_all-trans : {X : Type 0} (k l : Text) (es : List (Text × X)) → text_cmp k l ≡ Less → below_all text_cmp l es ≡ true → below_all text_cmp k es ≡ true
below_all-trans k l [] lt h = refl
below_all-trans k l (e ∷ es) lt h =
    let parts = and_parts (is_lt (text_cmp l e.0)) (below_all text_cmp l es) h in
    and_from _ _ (ap is_lt (text_total.trans k l e.0 lt (less _ parts.0))) (below_all-trans k l es lt parts.1)

module _ {R X : Type 0} (entry : R → Text × X) where
  -- the key of a row is below that of another
  abbrev pub is_before : R → R → Bool
  is_before a b = is_lt (text_cmp (entry a).0 (entry b).0)

  -- the keys of the rows rise
  abbrev AreInOrder : List R → Type 0
  AreInOrder rows = rises text_cmp (map entry rows) ≡ true

  -- each row is below the next one
  abbrev Climbs : List R → Type 0
  Climbs rows = (k : ℕ) (d : R) → k + 1 < length rows → is_before (get_or rows k d) (get_or rows (k + 1) d) ≡ true

  later : (x : R) (rows : List R) → Climbs (x ∷ rows) → Climbs rows
  later x rows h k d lt =
      let e : (k + 1) + 1 ≡ suc (k + 1) = omega arith in
      let f : k + 1 ≡ suc k = omega arith in
      subst (λ n. is_before (get_or (x ∷ rows) n d) (get_or rows (k + 1) d) ≡ true) f
      (subst (λ n. is_before (get_or (x ∷ rows) (k + 1) d) (get_or (x ∷ rows) n d) ≡ true) e (h (k + 1) d (omega arith)))

  ordered : (rows : List R) → Climbs rows → AreInOrder rows
  ordered [] h = refl
  ordered (x ∷ []) h = refl
  ordered (x ∷ y ∷ rows) h =
      let first : is_before x y ≡ true = h 0 x (omega arith) in
      let rest = ordered (y ∷ rows) (later x (y ∷ rows) h) in
      let above = and_parts (below_all text_cmp (entry y).0 (map entry rows)) (rises text_cmp (map entry rows)) rest in
      and_from _ _ (and_from _ _ first (below_all-trans (entry x).0 (entry y).0 (map entry rows) (less _ first) above.0)) rest

  climbs : (rows : List R) → AreInOrder rows → Climbs rows
  climbs [] h k d lt = absurd (omega arith)
  climbs (x ∷ []) h k d lt = absurd (omega arith)
  climbs (x ∷ y ∷ rows) h zero d lt =
      let parts = and_parts (below_all text_cmp (entry x).0 (map entry (y ∷ rows))) (rises text_cmp (map entry (y ∷ rows))) h in
      (and_parts (is_before x y) (below_all text_cmp (entry x).0 (map entry rows)) parts.0).0
  climbs (x ∷ y ∷ rows) h (suc k) d lt =
      let parts = and_parts (below_all text_cmp (entry x).0 (map entry (y ∷ rows))) (rises text_cmp (map entry (y ∷ rows))) h in
      let e : suc k + 1 ≡ suc (k + 1) = omega arith in
      rw e (climbs (y ∷ rows) parts.1 k d (omega arith))

  pub answered : (rows : List R) (r : Bool) → IsAllAdjacentAnswer (λ x y b. b ≡ is_before x y) rows r → (IsTrue r → AreInOrder rows) × (AreInOrder rows → IsTrue r)
  answered rows true h = ((λ _. ordered rows (λ k d lt. sym (h k d lt))), λ _. refl)
  answered [] false (k, lt, h) = absurd (omega arith)
  answered (x ∷ rows) false (k, lt, h) = ((λ e. absurd (true≢false (sym e))), λ o. absurd (true≢false (sym (climbs (x ∷ rows) o k x lt) ∙ sym (h x))))
