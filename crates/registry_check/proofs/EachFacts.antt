-- What tests of all rows of a map say of its keys.
use Rattle.std.proofs.Common.{◌≡◌, ◌∙◌, Bool, true, false, cond, ◌||◌, List, [], ◌∷◌, ◌++◌, map, find, is_some, refl, sym, ap, ap₂, subst, true≢false, Ordering, Some, None, Option, IsSome, All, if◌then◌else◌}
use Rattle.std.specs.List.{AllByRecursion, list_all, list_any}
use Rattle.std.proofs.lemmas.Bool.{and_from, and_parts, or_left, or_right}
use Rattle.std.proofs.lemmas.List.Elements.{All-head, All-tail}
use Rattle.registry_names.specs.Keys.{IsKey}
use Rattle.registry_names.specs.Maps.{MapBy, at, entries, first_at, seen}
use Rattle.registry_names.proofs.KeyFacts.{same_true}
use Rattle.registry_names.proofs.MapFacts.{at-entries}
use Rattle.registry_names.proofs.EntryFacts.{IsFoundIn, among_keys, entries_rise, rows_found}
use Rattle.registry_check.specs.Problems.{broken, fault_of, problems_of}
use Rattle.registry_check.specs.Rules.{has}
use Rattle.registry_check.specs.declared.problem.Problem.{Problem}
use Rattle.registry_check.specs.declared.problem.Test.{Test}
use Rattle.registry_check.specs.declared.problem.Thing.{Thing}
use Rattle.registry_check.proofs.SearchFacts.{any_mapped}

-- ---- tests of one row

-- all of these rules hold
abbrev pub all_hold : List Test → Bool
all_hold tests = list_all (λ t. t.holds) tests

pub nil_parts : {X : Type 0} (xs ys : List X) → xs ++ ys ≡ [] → (xs ≡ []) × (ys ≡ [])
nil_parts [] ys e = (refl, e)
nil_parts (x ∷ xs) ys e = absurd cc

no_fault : (b : Bool) (p : Problem) → (if b then [] else p ∷ []) ≡ [] → b ≡ true
no_fault true p e = refl
no_fault false p e = absurd cc

pub none_broken : (thing : Thing) (tests : List Test) → broken thing tests ≡ [] → all_hold tests ≡ true
none_broken thing [] e = refl
none_broken thing (t ∷ tests) e =
    let it = nil_parts (fault_of thing t) (broken thing tests) e in
    and_from t.holds (all_hold tests) (no_fault t.holds (record { rule = t.rule; thing = thing }) it.0) (none_broken thing tests it.1)

pub broken_none : (thing : Thing) (tests : List Test) → all_hold tests ≡ true → broken thing tests ≡ []
broken_none thing [] h = refl
broken_none thing (t ∷ tests) h =
    let both = and_parts t.holds (all_hold tests) h in
    ap (λ (b : Bool). (if b then [] else record { rule = t.rule; thing = thing } ∷ []) ++ broken thing tests) both.0 ∙ broken_none thing tests both.1

module _ {E : Type 0} (thing : E → Thing) (tests : E → List Test) where
  rows_hold : (es : List E) → problems_of thing tests es ≡ [] → AllByRecursion (λ e. all_hold (tests e) ≡ true) es
  rows_hold [] h = tt
  rows_hold (e ∷ es) h =
      let both = nil_parts (broken (thing e) (tests e)) (problems_of thing tests es) h in
      (none_broken (thing e) (tests e) both.0, rows_hold es both.1)

  hold_rows : (es : List E) → AllByRecursion (λ e. all_hold (tests e) ≡ true) es → problems_of thing tests es ≡ []
  hold_rows [] h = refl
  hold_rows (e ∷ es) h = ap₂ (λ xs ys. xs ++ ys) (broken_none (thing e) (tests e) h.0) (hold_rows es h.1)

-- ---- all rows of a map

pub some_is : {X : Type 0} (x y : X) → Some x ≡ Some y → x ≡ y
some_is x y e = cc

pub value_of : {X : Type 0} (o : Option X) → IsSome o → (x : X) × (o ≡ Some x)
value_of (Some x) h = (x, refl)
value_of None h = absurd (true≢false (sym h))

pub there : {X : Type 0} (o : Option X) (x : X) → o ≡ Some x → IsSome o
there o x e = ap is_some e

module _ {K X : Type 0} {cmp : K → K → Ordering} {same : K → K → Bool} (key : IsKey cmp same) where
  module _ (P : K × X → Type 0) where
    each_at : (es : List (K × X)) → AllByRecursion P es → (k : K) (x : X) → first_at same es k ≡ Some x → P (k, x)
    each_at [] all k x h = absurd cc
    each_at (e ∷ es) all k x h = each (each_at es all.1 k x) (same e.0 k) refl h
      where
        each : (first_at same es k ≡ Some x → P (k, x)) → (b : Bool) → same e.0 k ≡ b → cond b (Some e.1) (first_at same es k) ≡ Some x → P (k, x)
        each next true t i = subst (λ q. P (q, x)) (same_true key e.0 k t) (subst (λ y. P (e.0, y)) (some_is e.1 x i) all.0)
        each next false t i = next i

    at_each : (whole es : List (K × X)) → All (IsFoundIn key whole) es → ((k : K) (x : X) → first_at same whole k ≡ Some x → P (k, x)) → AllByRecursion P es
    at_each whole [] found f = tt
    at_each whole (e ∷ es) found f = (f e.0 e.1 (All-head (IsFoundIn key whole) e es found), at_each whole es (All-tail (IsFoundIn key whole) e es found) f)

  found_in : (m : MapBy cmp X) → All (IsFoundIn key (entries m)) (entries m)
  found_in m = rows_found key (entries m) (entries_rise m)

  -- where no row of a map is a problem, the rules hold of each key and its value
  pub none_means : (m : MapBy cmp X) (thing : K × X → Thing) (tests : K × X → List Test) → problems_of thing tests (entries m) ≡ []
      → (k : K) (x : X) → at m k ≡ Some x → all_hold (tests (k, x)) ≡ true
  none_means m thing tests h k x i = each_at (λ e. all_hold (tests e) ≡ true) (entries m) (rows_hold thing tests (entries m) h) k x (sym (at-entries key m k) ∙ i)

  -- and the other way round
  pub means_none : (m : MapBy cmp X) (thing : K × X → Thing) (tests : K × X → List Test) → ((k : K) (x : X) → at m k ≡ Some x → all_hold (tests (k, x)) ≡ true)
      → problems_of thing tests (entries m) ≡ []
  means_none m thing tests f = hold_rows thing tests (entries m) (at_each (λ e. all_hold (tests e) ≡ true) (entries m) (entries m) (found_in m) (λ k x i. f k x (at-entries key m k ∙ i)))

  -- a row has the key where the map has a value at it
  pub has_at : (m : MapBy cmp X) (k : K) → has same (entries m) k ≡ is_some (at m k)
  has_at m k = any_mapped (λ q. same q k) (λ (e : K × X). e.0) (entries m) ∙ among_keys key (entries m) k ∙ ap is_some (sym (at-entries key m k))

  -- also where rows show a part of their values
  has_seen : {Y : Type 0} (g : X → Y) (es : List (K × X)) (k : K) → has same (map (seen g) es) k ≡ has same es k
  has_seen g [] k = refl
  has_seen g (e ∷ es) k = ap (λ b. same e.0 k || b) (has_seen g es k)

  pub seen_at : {Y : Type 0} (g : X → Y) (m : MapBy cmp X) (k : K) → has same (map (seen g) (entries m)) k ≡ is_some (at m k)
  seen_at g m k = has_seen g (entries m) k ∙ has_at m k

  module _ {Y : Type 0} (g : X → Y) (thing : K × Y → Thing) (tests : K × Y → List Test) where
    seen_problems : (es : List (K × X)) → problems_of thing tests (map (seen g) es) ≡ problems_of (λ e. thing (seen g e)) (λ e. tests (seen g e)) es
    seen_problems [] = refl
    seen_problems (e ∷ es) = ap (λ ps. broken (thing (seen g e)) (tests (seen g e)) ++ ps) (seen_problems es)

    -- where no row is a problem that shows a part of the value, the rules hold of each key and that
    -- part
    pub none_means_seen : (m : MapBy cmp X) → problems_of thing tests (map (seen g) (entries m)) ≡ [] → (k : K) (x : X) → at m k ≡ Some x → all_hold (tests (k, g x)) ≡ true
    none_means_seen m h = none_means m (λ e. thing (seen g e)) (λ e. tests (seen g e)) (sym (seen_problems (entries m)) ∙ h)

    -- and the other way round
    pub means_none_seen : (m : MapBy cmp X) → ((k : K) (x : X) → at m k ≡ Some x → all_hold (tests (k, g x)) ≡ true) → problems_of thing tests (map (seen g) (entries m)) ≡ []
    means_none_seen m f = seen_problems (entries m) ∙ means_none m (λ e. thing (seen g e)) (λ e. tests (seen g e)) f

  -- ---- some row of a map

  module _ (f : K × X → Bool) where
    some_found : (whole es : List (K × X)) → All (IsFoundIn key whole) es → list_any f es ≡ true → (k : K) × ((x : X) × (first_at same whole k ≡ Some x) × (f (k, x) ≡ true))
    some_found whole [] found h = absurd (true≢false (sym h))
    some_found whole (e ∷ es) found h = each (some_found whole es (All-tail (IsFoundIn key whole) e es found)) (f e) refl h
      where
        each : (list_any f es ≡ true → (k : K) × ((x : X) × (first_at same whole k ≡ Some x) × (f (k, x) ≡ true))) → (b : Bool) → f e ≡ b → (b || list_any f es) ≡ true → (k : K) × ((x : X) × (first_at same whole k ≡ Some x) × (f (k, x) ≡ true))
        each next true t i = (e.0, (e.1, All-head (IsFoundIn key whole) e es found, t))
        each next false t i = next i

    found_some : (es : List (K × X)) (k : K) (x : X) → first_at same es k ≡ Some x → f (k, x) ≡ true → list_any f es ≡ true
    found_some [] k x h t = absurd cc
    found_some (e ∷ es) k x h t = each (λ i. found_some es k x i t) (same e.0 k) refl h
      where
        each : (first_at same es k ≡ Some x → list_any f es ≡ true) → (b : Bool) → same e.0 k ≡ b → cond b (Some e.1) (first_at same es k) ≡ Some x → (f e || list_any f es) ≡ true
        each next true s i = or_left (f e) (list_any f es) (ap f (ap₂ (λ (q : K) (y : X). (q, y)) (same_true key e.0 k s) (some_is e.1 x i)) ∙ t)
        each next false s i = or_right (f e) (list_any f es) (next i)

    -- a test that some row passes is one of a key and its value
    pub any_at : (m : MapBy cmp X) → list_any f (entries m) ≡ true → (k : K) × ((x : X) × (at m k ≡ Some x) × (f (k, x) ≡ true))
    any_at m h = let it = some_found (entries m) (entries m) (found_in m) h in (it.0, (it.1.0, at-entries key m it.0 ∙ it.1.1, it.1.2))

    pub at_any : (m : MapBy cmp X) (k : K) (x : X) → at m k ≡ Some x → f (k, x) ≡ true → list_any f (entries m) ≡ true
    at_any m k x h t = found_some (entries m) k x (sym (at-entries key m k) ∙ h) t

    -- ---- the first row of a map that passes a test

    first_found : (whole es : List (K × X)) → All (IsFoundIn key whole) es → list_any f es ≡ true
        → (k : K) × ((x : X) × (find f es ≡ Some (k, x)) × ((first_at same whole k ≡ Some x) × (f (k, x) ≡ true)))
    first_found whole [] found h = absurd (true≢false (sym h))
    first_found whole (e ∷ es) found h = each (first_found whole es (All-tail (IsFoundIn key whole) e es found)) (f e) refl h
      where
        each : (list_any f es ≡ true → (k : K) × ((x : X) × (find f es ≡ Some (k, x)) × ((first_at same whole k ≡ Some x) × (f (k, x) ≡ true)))) → (b : Bool) → f e ≡ b → (b || list_any f es) ≡ true
            → (k : K) × ((x : X) × (cond b (Some e) (find f es) ≡ Some (k, x)) × ((first_at same whole k ≡ Some x) × (f (k, x) ≡ true)))
        each next true t i = (e.0, (e.1, refl, (All-head (IsFoundIn key whole) e es found, t)))
        each next false t i = next i

    pub first_passes : (m : MapBy cmp X) → list_any f (entries m) ≡ true → (k : K) × ((x : X) × (find f (entries m) ≡ Some (k, x)) × ((at m k ≡ Some x) × (f (k, x) ≡ true)))
    first_passes m h = let it = first_found (entries m) (entries m) (found_in m) h in (it.0, (it.1.0, it.1.1, (at-entries key m it.0 ∙ it.1.2.0, it.1.2.1)))
