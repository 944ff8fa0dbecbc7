-- The part of a map under a first text.
use Rattle.std.proofs.Common.{◌≡◌, Bool, true, false, cond, not, ◌&&◌, ◌||◌, List, [], ◌∷◌, map, is_some, refl, sym, ap, ◌∙◌, Ordering, is_lt, Some, None, Option, option_map, filter, All}
use Rattle.std.specs.Ordering.{ordering_then}
use Rattle.std.specs.FinMap.Entries.{below_all}
use Rattle.std.specs.Cmp.{tied_itself}
use Rattle.std.proofs.lemmas.Bool.{and_parts, and_from}
use Rattle.std.proofs.lemmas.List.Elements.{All-weaker}
use Rattle.registry_names.specs.Texts.{Text, is}
use Rattle.registry_names.specs.Keys.{IsKey, by_first, both}
use Rattle.registry_names.specs.Maps.{MapBy, at, put, erase, keep, entries, revise, parts, part, first_at, rises, among, keys, seen}
use Rattle.registry_names.proofs.TextFacts.{text_total, is_true, is_self}
use Rattle.registry_names.proofs.KeyFacts.{first_key}
use Rattle.registry_names.proofs.MapFacts.{at-put, at-erase, at-keep, at-revise, at-entries, first_at-kept, first_at-revised}
use Rattle.registry_names.proofs.EntryFacts.{entries_rise, rises_kept, rises_mapped, rises_seen, first_at-seen, among_keys, same_rows, rows_found, IsFoundIn}

-- keys with one first text are ordered as their rests are
same_first : {R : Type 0} (cmp : R → R → Ordering) (p : Text) (a b : R) → by_first cmp (p, a) (p, b) ≡ cmp a b
unfolding by_first
same_first cmp p a b = ap (λ o. ordering_then o (cmp a b)) (tied_itself text_total p)

module _ {R X : Type 0} (cmp : R → R → Ordering) where
  below_one : (p : Text) (k : R) (e : (Text × R) × X) (es : List ((Text × R) × X)) (b : Bool) → is e.0.0 p ≡ b → is_lt (by_first cmp (p, k) e.0) ≡ true → below_all cmp k (parts es p) ≡ true
      → below_all cmp k (cond b ((e.0.1, e.1) ∷ parts es p) (parts es p)) ≡ true
  below_one p k e es true s lt more = and_from _ _ (ap is_lt (sym (same_first cmp p k e.0.1)) ∙ ap (λ q. is_lt (by_first cmp (p, k) (q, e.0.1))) (sym (is_true e.0.0 p s)) ∙ lt) more
  below_one p k e es false s lt more = more

  parts_below : (p : Text) (k : R) (es : List ((Text × R) × X)) → below_all (by_first cmp) (p, k) es ≡ true → below_all cmp k (parts es p) ≡ true
  parts_below p k [] h = refl
  parts_below p k (e ∷ es) h = let low = and_parts (is_lt (by_first cmp (p, k) e.0)) _ h in below_one p k e es (is e.0.0 p) refl low.0 (parts_below p k es low.1)

  parts_one : (p : Text) (e : (Text × R) × X) (es : List ((Text × R) × X)) (b : Bool) → is e.0.0 p ≡ b → below_all (by_first cmp) e.0 es ≡ true → rises cmp (parts es p) ≡ true
      → rises cmp (cond b ((e.0.1, e.1) ∷ parts es p) (parts es p)) ≡ true
  parts_one p e es true s low more = and_from _ _ (parts_below p e.0.1 es (ap (λ q. below_all (by_first cmp) (q, e.0.1) es) (sym (is_true e.0.0 p s)) ∙ low)) more
  parts_one p e es false s low more = more

  pub parts_rise : (es : List ((Text × R) × X)) (p : Text) → rises (by_first cmp) es ≡ true → rises cmp (parts es p) ≡ true
  parts_rise [] p h = refl
  parts_rise (e ∷ es) p h = let up = and_parts (below_all (by_first cmp) e.0 es) _ h in parts_one p e es (is e.0.0 p) refl up.0 (parts_rise es p up.1)

-- the keys of a part strictly rise
pub part_rises : {R X : Type 0} (cmp : R → R → Ordering) (m : MapBy (by_first cmp) X) (p : Text) → rises cmp (part cmp m p) ≡ true
unfolding part
part_rises cmp m p = parts_rise cmp (entries m) p (entries_rise m)

other : {R : Type 0} (same : R → R → Bool) (p q : Text) (k r : R) → is q p ≡ false → both same (q, r) (p, k) ≡ false
other same p q k r differ = ap (λ b. b && same r k) differ

module _ {R X : Type 0} {cmp : R → R → Ordering} {same : R → R → Bool} (rest : IsKey cmp same) where
  one_found : (k w : R) (a : Bool) (x : X) (es : List (R × X)) (o : Option X) → first_at same es k ≡ o → first_at same (cond a ((w, x) ∷ es) es) k ≡ cond (a && same w k) (Some x) o
  one_found k w true x es o h = ap (cond (same w k) (Some x)) h
  one_found k w false x es o h = h

  pub first_at-parts : (es : List ((Text × R) × X)) (p : Text) (k : R) → first_at same (parts es p) k ≡ first_at (both same) es (p, k)
  first_at-parts [] p k = refl
  first_at-parts (e ∷ es) p k = one_found k e.0.1 (is e.0.0 p) e.1 (parts es p) _ (first_at-parts es p k)

  -- what a part has at a rest is what the map has at the whole key
  pub at-part : (m : MapBy (by_first cmp) X) (p : Text) (k : R) → first_at same (part cmp m p) k ≡ at m (p, k)
  unfolding part
  at-part m p k = first_at-parts (entries m) p k ∙ sym (at-entries (first_key rest) m (p, k))

  -- the rests in a part are those that the map has something at
  pub any-part : (m : MapBy (by_first cmp) X) (p : Text) (k : R) → among same (keys (part cmp m p)) k ≡ is_some (at m (p, k))
  any-part m p k = among_keys rest (part cmp m p) k ∙ ap is_some (at-part m p k)

  -- each row of a part is what the map has at its whole key
  pub part_found : (m : MapBy (by_first cmp) X) (p : Text) → All (λ e. at m (p, e.0) ≡ Some e.1) (part cmp m p)
  part_found m p =
      All-weaker (IsFoundIn rest (part cmp m p)) (λ e. at m (p, e.0) ≡ Some e.1) (λ e found. sym (at-part m p e.0) ∙ found)
      (part cmp m p) (rows_found rest (part cmp m p) (part_rises cmp m p))

  -- rows that rise, and have at each rest what the map has, are the part
  pub part_is : (m : MapBy (by_first cmp) X) (p : Text) (es : List (R × X)) → rises cmp es ≡ true → ((k : R) → first_at same es k ≡ at m (p, k)) → part cmp m p ≡ es
  part_is m p es up h = same_rows rest (part cmp m p) es (part_rises cmp m p) up (λ k. at-part m p k ∙ sym (h k))

  -- maps with the same under a first text have the same part
  pub same_part : (m n : MapBy (by_first cmp) X) (p : Text) → ((k : R) → at m (p, k) ≡ at n (p, k)) → part cmp m p ≡ part cmp n p
  same_part m n p h = part_is m p (part cmp n p) (part_rises cmp n p) (λ k. at-part n p k ∙ sym (h k))

  -- ---- a part whose values are seen by a function

  pub part_sorted : {Y : Type 0} (g : X → Y) (m : MapBy (by_first cmp) X) (p : Text) → rises cmp (map (seen g) (part cmp m p)) ≡ true
  part_sorted g m p = rises_seen cmp g (part cmp m p) ∙ part_rises cmp m p

  pub part_find : {Y : Type 0} (g : X → Y) (m : MapBy (by_first cmp) X) (p : Text) (k : R) → first_at same (map (seen g) (part cmp m p)) k ≡ option_map g (at m (p, k))
  part_find g m p k = first_at-seen rest g (part cmp m p) k ∙ ap (option_map g) (at-part m p k)

  -- rows that rise, and have at each rest what is seen of the map there, are the part as it is seen
  pub part_seen : {Y : Type 0} (g : X → Y) (m : MapBy (by_first cmp) X) (p : Text) (es : List (R × Y)) → rises cmp es ≡ true → ((k : R) → first_at same es k ≡ option_map g (at m (p, k))) → es ≡ map (seen g) (part cmp m p)
  part_seen g m p es up h = same_rows rest es (map (seen g) (part cmp m p)) up (part_sorted g m p) (λ k. h k ∙ sym (part_find g m p k))

  -- ---- a part after a change of the map

  pub part-put : (m : MapBy (by_first cmp) X) (q : Text) (r : R) (x : X) (p : Text) → is q p ≡ false → part cmp (put m (q, r) x) p ≡ part cmp m p
  part-put m q r x p d = same_part _ _ p (λ k. at-put (first_key rest) m (q, r) x (p, k) ∙ ap (λ b. cond b (Some x) (at m (p, k))) (other same p q k r d))

  pub part-erase : (m : MapBy (by_first cmp) X) (q : Text) (r : R) (p : Text) → is q p ≡ false → part cmp (erase m (q, r)) p ≡ part cmp m p
  part-erase m q r p d = same_part _ _ p (λ k. at-erase (first_key rest) m (q, r) (p, k) ∙ ap (λ b. cond b None (at m (p, k))) (other same p q k r d))

  -- who is in a part after a put, and after an erasure

  pub any-put : (m : MapBy (by_first cmp) X) (p : Text) (r : R) (x : X) (k : R) → among same (keys (part cmp (put m (p, r) x) p)) k ≡ (same r k || among same (keys (part cmp m p)) k)
  any-put m p r x k =
      any-part (put m (p, r) x) p k ∙ ap is_some (at-put (first_key rest) m (p, r) x (p, k) ∙ ap (λ b. cond (b && same r k) (Some x) (at m (p, k))) (is_self p))
      ∙ some_or (same r k) (at m (p, k)) ∙ ap (λ b. same r k || b) (sym (any-part m p k))
    where
      some_or : (b : Bool) (o : Option X) → is_some (cond b (Some x) o) ≡ (b || is_some o)
      some_or true o = refl
      some_or false o = refl

  pub any-erase : (m : MapBy (by_first cmp) X) (p : Text) (r k : R) → among same (keys (part cmp (erase m (p, r)) p)) k ≡ (not (same r k) && among same (keys (part cmp m p)) k)
  any-erase m p r k =
      any-part (erase m (p, r)) p k ∙ ap is_some (at-erase (first_key rest) m (p, r) (p, k) ∙ ap (λ b. cond (b && same r k) None (at m (p, k))) (is_self p))
      ∙ none_and (same r k) (at m (p, k)) ∙ ap (λ b. not (same r k) && b) (sym (any-part m p k))
    where
      none_and : (b : Bool) (o : Option X) → is_some (cond b None o) ≡ (not b && is_some o)
      none_and true o = refl
      none_and false o = refl

  -- what is kept of a part
  pub part-keep : (m : MapBy (by_first cmp) X) (test : Text × R → Bool) (p : Text) → part cmp (keep m test) p ≡ filter (λ (e : R × X). test (p, e.0)) (part cmp m p)
  part-keep m test p = part_is (keep m test) p _ (rises_kept cmp (part cmp m p) (λ k. test (p, k)) (part_rises cmp m p))
      (λ k. first_at-kept rest (part cmp m p) (λ r. test (p, r)) k ∙ ap (λ o. cond (test (p, k)) o None) (at-part m p k) ∙ sym (at-keep (first_key rest) m test (p, k)))

  -- a part without the rest that is erased
  pub part-erased : (m : MapBy (by_first cmp) X) (p : Text) (r : R) → part cmp (erase m (p, r)) p ≡ filter (λ (e : R × X). not (same r e.0)) (part cmp m p)
  part-erased m p r = part_is (erase m (p, r)) p _ (rises_kept cmp (part cmp m p) (λ k. not (same r k)) (part_rises cmp m p))
      (λ k. first_at-kept rest (part cmp m p) (λ q. not (same r q)) k ∙ ap (λ o. cond (not (same r k)) o None) (at-part m p k) ∙ turned (same r k) _
      ∙ sym (at-erase (first_key rest) m (p, r) (p, k) ∙ ap (λ b. cond (b && same r k) None (at m (p, k))) (is_self p)))
    where
      turned : (b : Bool) (o : Option X) → cond (not b) o None ≡ cond b None o
      turned true o = refl
      turned false o = refl

  pub part-revise : (m : MapBy (by_first cmp) X) (f : Text × R → X → X) (p : Text) → part cmp (revise m f) p ≡ map (λ (e : R × X). (e.0, f (p, e.0) e.1)) (part cmp m p)
  part-revise m f p = part_is (revise m f) p _ (rises_mapped cmp (λ e. (e.0, f (p, e.0) e.1)) (λ e. refl) (part cmp m p) ∙ part_rises cmp m p)
      (λ k. first_at-revised rest (part cmp m p) (λ r. f (p, r)) k ∙ ap (option_map (f (p, k))) (at-part m p k) ∙ sym (at-revise (first_key rest) m f (p, k)))
