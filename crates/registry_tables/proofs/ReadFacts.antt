-- Maps whose values are read as values of another type.
use Rattle.registry_tables.proofs.Words.{◌≡◌, ◌∙◌, Bool, true, false, cond, List, [], ◌∷◌, map, is_some, refl, sym, ap, Ordering, Some, None, Option, option_map, IsKey, by_first, MapBy, at, empty}
use Rattle.registry_tables.proofs.Words.{entries, erase, first_at, keep, parts, put, seen, Text, is, entries-rows, entries_rise, rises_mapped, first_key, same_true, at-empty, at-entries, at-erase}
use Rattle.registry_tables.proofs.Words.{at-keep, at-put, at-rows, same_map}
use Rattle.registry_names.specs.Maps.{part}
use Rattle.registry_tables.specs.ReadMaps.{read_as}
use Rattle.registry_tables.proofs.FoundFacts.{some_seen}

module _ {K X Y : Type 0} {cmp : K → K → Ordering} {same : K → K → Bool} (key : IsKey cmp same) where
  read_found : (f : K → X → Y) (k : K) (e : K × X) (b : Bool) (rest : Option X) → same e.0 k ≡ b → cond b (Some (f e.0 e.1)) (option_map (f k) rest) ≡ option_map (f k) (cond b (Some e.1) rest)
  read_found f k e true rest t = ap (λ q. Some (f q e.1)) (same_true key e.0 k t)
  read_found f k e false rest t = refl

  first_read : (es : List (K × X)) (f : K → X → Y) (k : K) → first_at same (map (λ e. (e.0, f e.0 e.1)) es) k ≡ option_map (f k) (first_at same es k)
  first_read [] f k = refl
  first_read (e ∷ es) f k = ap (cond (same e.0 k) (Some (f e.0 e.1))) (first_read es f k) ∙ read_found f k e _ _ refl

  pub at-read : (m : MapBy cmp X) (f : K → X → Y) (k : K) → at (read_as m f) k ≡ option_map (f k) (at m k)
  unfolding read_as
  at-read m f k = at-rows key _ k ∙ first_read (entries m) f k ∙ ap (option_map (f k)) (sym (at-entries key m k))

  pub entries-read : (m : MapBy cmp X) (f : K → X → Y) → entries (read_as m f) ≡ map (λ (e : K × X). (e.0, f e.0 e.1)) (entries m)
  unfolding read_as
  entries-read m f = entries-rows key _ (rises_mapped cmp (λ (e : K × X). (e.0, f e.0 e.1)) (λ e. refl) (entries m) ∙ entries_rise m)

  -- a key is there in both
  pub some-read : (m : MapBy cmp X) (f : K → X → Y) (k : K) → is_some (at (read_as m f) k) ≡ is_some (at m k)
  some-read m f k = ap is_some (at-read m f k) ∙ some_seen (f k) (at m k)

  -- what is there is read of a value
  pub read_there : (m : MapBy cmp X) (f : K → X → Y) (k : K) (y : Y) → at (read_as m f) k ≡ Some y → (x : X) × (at m k ≡ Some x) × (f k x ≡ y)
  read_there m f k y e = go (at m k) refl (sym (at-read m f k) ∙ e)
    where
      go : (o : Option X) → at m k ≡ o → option_map (f k) o ≡ Some y → (x : X) × (at m k ≡ Some x) × (f k x ≡ y)
      go None i h = absurd cc
      go (Some x) i h = (x, i, cc)

  -- ---- after a change

  pub read-empty : (f : K → X → Y) → read_as (empty {X = X} {cmp = cmp}) f ≡ empty
  read-empty f = same_map key _ _ (λ k. at-read empty f k ∙ ap (option_map (f k)) (at-empty key k) ∙ sym (at-empty key k))

  pub read-put : (m : MapBy cmp X) (f : K → X → Y) (q : K) (x : X) → read_as (put m q x) f ≡ put (read_as m f) q (f q x)
  read-put m f q x = same_map key _ _ (λ k. at-read (put m q x) f k ∙ ap (option_map (f k)) (at-put key m q x k) ∙ each k (same q k) refl ∙ sym (at-put key (read_as m f) q (f q x) k))
    where
      each : (k : K) (b : Bool) → same q k ≡ b → option_map (f k) (cond b (Some x) (at m k)) ≡ cond b (Some (f q x)) (at (read_as m f) k)
      each k true t = ap (λ j. Some (f j x)) (sym (same_true key q k t))
      each k false t = sym (at-read m f k)

  pub read-erase : (m : MapBy cmp X) (f : K → X → Y) (q : K) → read_as (erase m q) f ≡ erase (read_as m f) q
  read-erase m f q = same_map key _ _ (λ k. at-read (erase m q) f k ∙ ap (option_map (f k)) (at-erase key m q k) ∙ each k (same q k) ∙ sym (at-erase key (read_as m f) q k))
    where
      each : (k : K) (b : Bool) → option_map (f k) (cond b None (at m k)) ≡ cond b None (at (read_as m f) k)
      each k true = refl
      each k false = sym (at-read m f k)

  pub read-keep : (m : MapBy cmp X) (f : K → X → Y) (test : K → Bool) → read_as (keep m test) f ≡ keep (read_as m f) test
  read-keep m f test = same_map key _ _ (λ k. at-read (keep m test) f k ∙ ap (option_map (f k)) (at-keep key m test k) ∙ each k (test k) ∙ sym (at-keep key (read_as m f) test k))
    where
      each : (k : K) (b : Bool) → option_map (f k) (cond b (at m k) None) ≡ cond b (at (read_as m f) k) None
      each k true = sym (at-read m f k)
      each k false = refl

-- ---- the part under a first text

pub parts-read : {R X Y : Type 0} (g : X → Y) (es : List ((Text × R) × X)) (p : Text) → parts (map (seen g) es) p ≡ map (seen g) (parts es p)
parts-read g [] p = refl
parts-read {R} {X} {Y} g (e ∷ es) p = each (is e.0.0 p) (parts-read g es p)
  where
    each : (b : Bool) → parts (map (seen g) es) p ≡ map (seen g) (parts es p)
        → cond b ((e.0.1, g e.1) ∷ parts (map (seen g) es) p) (parts (map (seen g) es) p) ≡ map (seen g) (cond b ((e.0.1, e.1) ∷ parts es p) (parts es p))
    each true rest = ap (λ (l : List (R × Y)). (e.0.1, g e.1) ∷ l) rest
    each false rest = rest

pub part-read : {R X Y : Type 0} {cmp : R → R → Ordering} {same : R → R → Bool} (rest : IsKey cmp same) (m : MapBy (by_first cmp) X) (g : X → Y) (p : Text) → part cmp (read_as m (λ _ x. g x)) p ≡ map (seen g) (part cmp m p)
unfolding part
part-read rest m g p = ap (λ es. parts es p) (entries-read (first_key rest) m (λ _ x. g x)) ∙ parts-read g (entries m) p
