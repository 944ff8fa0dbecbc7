-- What a map has at a key after each change.
use Rattle.std.proofs.Common.{◌≡◌, Bool, true, false, cond, List, [], ◌∷◌, map, refl, sym, ap, ap₂, ◌∙◌, true≢false, Ordering, Some, None, Option, option_map, filter}
use Rattle.std.specs.FinMap as fin
use Rattle.registry_names.specs.Keys.{IsKey}
use Rattle.registry_names.specs.Maps.{MapBy, empty, at, put, erase, keep, entries, revise, rows, first_at}
use Rattle.registry_names.proofs.KeyFacts.{same_true, same_self, look_up_test}

module _ {K X : Type 0} {cmp : K → K → Ordering} {same : K → K → Bool} (key : IsKey cmp same) where
  pub at-empty : (k : K) → at (empty {X = X} {cmp = cmp}) k ≡ None
  unfolding at empty
  at-empty k = fin.get-empty cmp k

  pub at-put : (m : MapBy cmp X) (q : K) (x : X) (k : K) → at (put m q x) k ≡ cond (same q k) (Some x) (at m k)
  unfolding at put
  at-put m q x k = fin.get-insert key.total m q x k ∙ ap (λ b. cond b (Some x) (fin.get m k)) (look_up_test key k q)

  pub at-put_same : (m : MapBy cmp X) (q : K) (x : X) → at (put m q x) q ≡ Some x
  at-put_same m q x = at-put m q x q ∙ ap (λ b. cond b (Some x) (at m q)) (same_self key q)

  pub at-put_other : (m : MapBy cmp X) (q : K) (x : X) (k : K) → same q k ≡ false → at (put m q x) k ≡ at m k
  at-put_other m q x k differ = at-put m q x k ∙ ap (λ b. cond b (Some x) (at m k)) differ

  pub at-erase : (m : MapBy cmp X) (q k : K) → at (erase m q) k ≡ cond (same q k) None (at m k)
  unfolding at erase
  at-erase m q k = fin.get-remove key.total m q k ∙ ap (λ b. cond b None (fin.get m k)) (look_up_test key k q)

  pub at-erase_same : (m : MapBy cmp X) (q : K) → at (erase m q) q ≡ None
  at-erase_same m q = at-erase m q q ∙ ap (λ b. cond b None (at m q)) (same_self key q)

  pub at-erase_other : (m : MapBy cmp X) (q k : K) → same q k ≡ false → at (erase m q) k ≡ at m k
  at-erase_other m q k differ = at-erase m q k ∙ ap (λ b. cond b None (at m k)) differ

  pub at-keep : (m : MapBy cmp X) (test : K → Bool) (k : K) → at (keep m test) k ≡ cond (test k) (at m k) None
  unfolding at keep
  at-keep m test k = fin.get-retain_keys m test k (λ q t. ap test (sym (key.exact k q t)))

  -- maps with the same value at each key are one
  pub same_map : (m n : MapBy cmp X) → ((k : K) → at m k ≡ at n k) → m ≡ n
  unfolding at
  same_map m n h = fin.same_map key.total key.exact m n h

  -- a look-up in a list of rows, as std's maps make it
  pub first_is : (es : List (K × X)) (k : K) → fin.find cmp k es ≡ first_at same es k
  first_is [] k = refl
  first_is (e ∷ es) k = ap₂ (λ b o. cond b (Some e.1) o) (look_up_test key k e.0) (first_is es k)

  pub at-rows : (es : List (K × X)) (k : K) → at (rows cmp es) k ≡ first_at same es k
  unfolding at rows
  at-rows es k = fin.get-from_entries key.total es k ∙ first_is es k

  pub at-entries : (m : MapBy cmp X) (k : K) → at m k ≡ first_at same (entries m) k
  unfolding at entries
  at-entries m k = fin.get-entries m k ∙ first_is (fin.entries m) k

  found : (f : K → X → X) (k : K) (e : K × X) (b : Bool) (rest : Option X) → same e.0 k ≡ b → cond b (Some (f e.0 e.1)) (option_map (f k) rest) ≡ option_map (f k) (cond b (Some e.1) rest)
  found f k e true rest t = ap (λ q. Some (f q e.1)) (same_true key e.0 k t)
  found f k e false rest t = refl

  pub first_at-revised : (es : List (K × X)) (f : K → X → X) (k : K) → first_at same (map (λ e. (e.0, f e.0 e.1)) es) k ≡ option_map (f k) (first_at same es k)
  first_at-revised [] f k = refl
  first_at-revised (e ∷ es) f k = ap (cond (same e.0 k) (Some (f e.0 e.1))) (first_at-revised es f k) ∙ found f k e _ _ refl

  pub at-revise : (m : MapBy cmp X) (f : K → X → X) (k : K) → at (revise m f) k ≡ option_map (f k) (at m k)
  unfolding revise rows entries
  at-revise m f k = at-rows _ k ∙ first_at-revised (entries m) f k ∙ ap (option_map (f k)) (sym (at-entries m k))

  kept : (e : K × X) (es : List (K × X)) (k : K) (a t b : Bool) (o : Option X) → same e.0 k ≡ b → (b ≡ true → a ≡ t) → first_at same es k ≡ cond t o None → first_at same (cond a (e ∷ es) es) k ≡ cond t (cond b (Some e.1) o) None
  kept e es k true true true o s alike h = ap (λ b. cond b (Some e.1) (first_at same es k)) s
  kept e es k true false true o s alike h = absurd (true≢false (alike refl))
  kept e es k true t false o s alike h = ap (λ b. cond b (Some e.1) (first_at same es k)) s ∙ h
  kept e es k false true true o s alike h = absurd (true≢false (sym (alike refl)))
  kept e es k false false true o s alike h = h
  kept e es k false t false o s alike h = h

  nothing : (b : Bool) → ◌≡◌ {A = Option X} None (cond b None None)
  nothing true = refl
  nothing false = refl

  pub first_at-kept : (es : List (K × X)) (test : K → Bool) (k : K) → first_at same (filter (λ (e : K × X). test e.0) es) k ≡ cond (test k) (first_at same es k) None
  first_at-kept [] test k = nothing (test k)
  first_at-kept (e ∷ es) test k = kept e _ k (test e.0) (test k) _ _ refl (λ t. ap test (same_true key e.0 k t)) (first_at-kept es test k)
