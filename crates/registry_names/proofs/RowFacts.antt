-- What a search in a list of rows finds is what the map that they give has.
use Rattle.std.proofs.Common.{◌≡◌, Bool, true, false, cond, ◌||◌, List, [], ◌∷◌, map, is_some, refl, sym, ap, ◌∙◌, true≢false, Ordering, Some, Option, option_map, find}
use Rattle.std.specs.Cmp.{both_ways}
use Rattle.std.specs.List.{list_any}
use Rattle.std.proofs.lemmas.Bool.{or_left, or_right}
use Rattle.registry_names.specs.Keys.{IsKey}
use Rattle.registry_names.specs.Maps.{MapBy, at, rows, entries, keys, first_at}
use Rattle.registry_names.proofs.KeyFacts.{same_true, same_self}
use Rattle.registry_names.proofs.MapFacts.{at-rows, at-entries}
use Rattle.registry_names.proofs.EntryFacts.{among_keys}

module _ {K X : Type 0} {cmp : K → K → Ordering} {same : K → K → Bool} (key : IsKey cmp same) where
  more_there : (b : Bool) (x : X) (o : Option X) → is_some o ≡ true → is_some (cond b (Some x) o) ≡ true
  more_there true x o h = refl
  more_there false x o h = h

  found_by : (f : K → Bool) (e : K × X) (es : List (K × X)) (b : Bool) → f e.0 ≡ b → (b || list_any f (keys es)) ≡ true
      → (list_any f (keys es) ≡ true → (k : K) × (f k ≡ true) × (is_some (first_at same es k) ≡ true))
      → (k : K) × (f k ≡ true) × (is_some (first_at same (e ∷ es) k) ≡ true)
  found_by f e es true t h next = (e.0, t, ap (λ b. is_some (cond b (Some e.1) (first_at same es e.0))) (same_self key e.0))
  found_by f e es false t h next = let rest = next h in (rest.0, rest.1, more_there (same e.0 rest.0) e.1 _ rest.2)

  -- a test that some key passes names a key that has a value
  any_found : (f : K → Bool) (es : List (K × X)) → list_any f (keys es) ≡ true → (k : K) × (f k ≡ true) × (is_some (first_at same es k) ≡ true)
  any_found f [] h = absurd (true≢false (sym h))
  any_found f (e ∷ es) h = found_by f e es (f e.0) refl h (any_found f es)

  at_first : (f : K → Bool) (e : K × X) (es : List (K × X)) (k : K) (b : Bool) → same e.0 k ≡ b → f k ≡ true → is_some (cond b (Some e.1) (first_at same es k)) ≡ true
      → (is_some (first_at same es k) ≡ true → list_any f (keys es) ≡ true) → (f e.0 || list_any f (keys es)) ≡ true
  at_first f e es k true s t h next = or_left _ _ (ap f (same_true key e.0 k s) ∙ t)
  at_first f e es k false s t h next = or_right (f e.0) _ (next h)

  -- a key that has a value and passes a test is some key that does
  any_at : (f : K → Bool) (es : List (K × X)) (k : K) → f k ≡ true → is_some (first_at same es k) ≡ true → list_any f (keys es) ≡ true
  any_at f [] k t h = absurd (true≢false (sym h))
  any_at f (e ∷ es) k t h = at_first f e es k (same e.0 k) refl t h (any_at f es k t)

  -- the same of a map
  pub any_in : (f : K → Bool) (m : MapBy cmp X) → list_any f (keys (entries m)) ≡ true → (k : K) × (f k ≡ true) × (is_some (at m k) ≡ true)
  any_in f m h = let some = any_found f (entries m) h in (some.0, some.1, ap is_some (at-entries key m some.0) ∙ some.2)

  pub any_here : (f : K → Bool) (m : MapBy cmp X) (k : K) → f k ≡ true → is_some (at m k) ≡ true → list_any f (keys (entries m)) ≡ true
  any_here f m k t h = any_at f (entries m) k t (sym (ap is_some (at-entries key m k)) ∙ h)

  module _ {R : Type 0} (entry : R → K × X) where
    found : (b : Bool) (r : R) (o : Option R) → option_map (λ (s : R). (entry s).1) (cond b (Some r) o) ≡ cond b (Some (entry r).1) (option_map (λ (s : R). (entry s).1) o)
    found true r o = refl
    found false r o = refl

    first_at-find : (es : List R) (k : K) → option_map (λ (r : R). (entry r).1) (find (λ r. same (entry r).0 k) es) ≡ first_at same (map entry es) k
    first_at-find [] k = refl
    first_at-find (r ∷ es) k = found (same (entry r).0 k) r _ ∙ ap (cond (same (entry r).0 k) (Some (entry r).1)) (first_at-find es k)

    -- the value of the first row with a key is the map's
    pub at-find : (es : List R) (k : K) → option_map (λ (r : R). (entry r).1) (find (λ r. same (entry r).0 k) es) ≡ at (rows cmp (map entry es)) k
    at-find es k = first_at-find es k ∙ sym (at-rows key (map entry es) k)

    row_keys : (f : K → Bool) (es : List R) → list_any (λ r. f (entry r).0) es ≡ list_any f (keys (map entry es))
    row_keys f [] = refl
    row_keys f (r ∷ es) = ap (λ b. f (entry r).0 || b) (row_keys f es)

    -- a key is that of a row where the map has a value
    pub at-any : (es : List R) (k : K) → list_any (λ r. same (entry r).0 k) es ≡ is_some (at (rows cmp (map entry es)) k)
    at-any es k = row_keys (λ q. same q k) es ∙ among_keys key (map entry es) k ∙ ap is_some (sym (at-rows key (map entry es) k))

    -- a test passes at some row where it passes at some key of the map
    pub any-rows : (f : K → Bool) (es : List R) → list_any (λ r. f (entry r).0) es ≡ list_any f (keys (entries (rows cmp (map entry es))))
    any-rows f es = row_keys f es ∙ both_ways _ _
        (λ h. let some = any_found f (map entry es) h in any_here f (rows cmp (map entry es)) some.0 some.1 (ap is_some (at-rows key (map entry es) some.0) ∙ some.2))
        (λ h. let some = any_in f (rows cmp (map entry es)) h in any_at f (map entry es) some.0 some.1 (ap is_some (sym (at-rows key (map entry es) some.0)) ∙ some.2))
