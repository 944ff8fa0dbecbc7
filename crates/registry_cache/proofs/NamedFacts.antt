-- The entries of an LRU cache, as a cache of what is shared names them.
use Rattle.std.proofs.Common.{◌≡◌, ℕ, suc, zero, ◌+◌, ◌-◌, ◌<◌, ◌^◌, Bool, true, false, cond, not, List, [], ◌∷◌, ◌++◌, take, length, slice_get, bytes_eq, Option, Some, None, option_map, refl, sym, ap, ap₂, ◌∙◌, arith}
use Rattle.std.specs.List.{AllByRecursion, IsDistinct}
use Rattle.std.specs.Map.{keys_of, lookup, lookup_entry, remove_entry}
use Rattle.std.specs.Option.{option_map_or}
use Rattle.std.proofs.lemmas.List.{map-append, take_all}
use Rattle.lru.specs.LruCache.{LruCache, promoted, put_entries}
use Rattle.lru.proofs.CallerLemmas.{Contains-lookup_entry}
use Rattle.registry_names.specs.Texts.{Text, is}
use Rattle.registry_names.specs.Maps.{first_at}
use Rattle.registry_names.proofs.TextFacts.{is_true, is_sym}
use Rattle.registry_cache.specs.Caches.{Entries, cost, size, entries_without}
use Rattle.registry_cache.specs.Inside.{named}
use Rattle.registry_cache.proofs.PrefixFacts.{size_push}

-- the test of a query, and that of a look-up in a cache
pub asks : (name stored : Text) → bytes_eq name stored ≡ is stored name
unfolding is
asks name stored = is_sym name stored

module _ {S : Type 0} (key : S → Text) where
  -- the test of a query for this name
  abbrev pub query : Text → S → Bool
  query name k = bytes_eq name (key k)

  abbrev pub same_key : S → S → Bool
  same_key a b = bytes_eq (key a) (key b)

-- the bytes of what is found, of the value and of its entry
mapped_cond : {V : Type 0} (bytes : V → Text) (b : Bool) (v : V) (o : Option V) → option_map bytes (cond b (Some v) o) ≡ cond b (Some (bytes v)) (option_map bytes o)
mapped_cond bytes true v o = refl
mapped_cond bytes false v o = refl

mapped_twice : {S V : Type 0} (bytes : V → Text) (o : Option (S × V)) → option_map bytes (option_map (λ (f : S × V). f.1) o) ≡ option_map (λ (f : S × V). bytes f.1) o
mapped_twice bytes None = refl
mapped_twice bytes (Some f) = refl

of_entry : {S V : Type 0} (b : Bool) (e : S × V) (o : Option V) (r : Option (S × V)) → o ≡ option_map (λ (f : S × V). f.1) r → cond b (Some e.1) o ≡ option_map (λ (f : S × V). f.1) (cond b (Some e) r)
of_entry true e o r h = refl
of_entry false e o r h = h

-- the value that is found is that of the entry
lookup_by_entry : {S V : Type 0} (test : S → Bool) (es : List (S × V)) → lookup test es ≡ option_map (λ (f : S × V). f.1) (lookup_entry test es)
lookup_by_entry test [] = refl
lookup_by_entry test (e ∷ es) = of_entry (test e.0) e _ _ (lookup_by_entry test es)

all_out_cons : {S V : Type 0} (e : S × V) (es fs : List (S × V)) (o : Option V) (b : Bool) → cond b (Some e.1) o ≡ None → (o ≡ None → fs ≡ es) → cond b es (e ∷ fs) ≡ e ∷ es
all_out_cons e es fs o true h on = cc
all_out_cons e es fs o false h on = ap (λ (l : List _). e ∷ l) (on h)

-- where none is found, none goes
pub remove_entry-none : {S V : Type 0} (test : S → Bool) (es : List (S × V)) → lookup test es ≡ None → remove_entry test es ≡ es
remove_entry-none test [] h = refl
remove_entry-none test (e ∷ es) h = all_out_cons e es (remove_entry test es) (lookup test es) (test e.0) h (remove_entry-none test es)

none_there : {S V : Type 0} (bytes : V → Text) (o : Option (S × V)) → option_map bytes (option_map (λ (f : S × V). f.1) o) ≡ None → o ≡ None
none_there bytes None h = refl
none_there bytes (Some f) h = cc

cut_at : {A : Type 0} (n : ℕ) (es : List A) (x : A) → length es ≡ suc n → slice_get es n ≡ Some x → es ≡ take n es ++ x ∷ []
cut_at n [] x e h = cc
cut_at zero (y ∷ []) x e h = let same : y ≡ x = cc in ap (λ z. z ∷ []) same
cut_at zero (y ∷ z ∷ es) x e h = absurd (omega arith)
cut_at (suc n) (y ∷ es) x e h = ap (λ (l : List _). y ∷ l) (cut_at n es x (omega arith) h)

cut_last : {A : Type 0} (es : List A) (x : A) → slice_get es (length es - 1) ≡ Some x → es ≡ take (length es - 1) es ++ x ∷ []
cut_last [] x h = cc
cut_last (y ∷ es) x h = let n = length (y ∷ es) - 1 in cut_at (length (y ∷ es) - 1) (y ∷ es) x (omega arith) h

gap : {A : Type 0} (es : List A) (n : ℕ) → n < length es → slice_get es n ≡ None → ⊥
gap [] n l h = omega arith
gap (y ∷ es) zero l h = cc
gap (y ∷ es) (suc n) l h = gap es n (omega arith) h

none_last : {A : Type 0} (es : List A) → slice_get es (length es - 1) ≡ None → es ≡ []
none_last [] h = refl
none_last (y ∷ es) h = absurd (gap (y ∷ es) (length (y ∷ es) - 1) (omega arith) h)

module _ {S V : Type 0} (key : S → Text) (bytes : V → Text) where
  pub lookup-named : (name : Text) (es : List (S × V)) → option_map bytes (lookup (query key name) es) ≡ first_at is (named key bytes es) name
  lookup-named name [] = refl
  lookup-named name (e ∷ es) =
      mapped_cond bytes (query key name e.0) e.1 (lookup (query key name) es)
      ∙ ap₂ (λ b o. cond b (Some (bytes e.1)) o) (asks name (key e.0)) (lookup-named name es)

  -- ---- an entry goes

  leave_out : (name : Text) (e : S × V) (fs : Entries) (b : Bool) → bytes_eq (key e.0) name ≡ b → b ≡ false → cond (not (is (key e.0) name)) ((key e.0, bytes e.1) ∷ fs) fs ≡ (key e.0, bytes e.1) ∷ fs
  unfolding is
  leave_out name e fs b s t = ap (λ c. cond (not c) ((key e.0, bytes e.1) ∷ fs) fs) (s ∙ t)

  differs : (name : Text) (k : S) (e : S × V) → key k ≡ name → same_key key k e.0 ≡ false → is name (key e.0) ≡ false
  unfolding is
  differs name k e at h = ap (λ q. bytes_eq q (key e.0)) (sym at) ∙ h

  -- where no key is the name's, none is left out
  none_out : (name : Text) (k : S) (es : List (S × V)) → key k ≡ name → AllByRecursion (λ y. same_key key k y ≡ false) (keys_of es) → entries_without name (named key bytes es) ≡ named key bytes es
  none_out name k [] at h = refl
  none_out name k (e ∷ es) at h =
      leave_out name e (entries_without name (named key bytes es)) _ refl (asks (key e.0) name ∙ differs name k e at h.0)
      ∙ ap (λ (l : Entries). (key e.0, bytes e.1) ∷ l) (none_out name k es at h.1)

  out_cons : (name : Text) (e : S × V) (es fs : List (S × V)) (b : Bool) → is (key e.0) name ≡ b
      → (key e.0 ≡ name → named key bytes es ≡ entries_without name (named key bytes es)) → named key bytes fs ≡ entries_without name (named key bytes es)
      → named key bytes (cond b es (e ∷ fs)) ≡ cond (not b) ((key e.0, bytes e.1) ∷ entries_without name (named key bytes es)) (entries_without name (named key bytes es))
  out_cons name e es fs true t here on = here (is_true (key e.0) name t)
  out_cons name e es fs false t here on = ap (λ (l : Entries). (key e.0, bytes e.1) ∷ l) on

  pub named-remove_entry : (name : Text) (es : List (S × V)) → IsDistinct (same_key key) (keys_of es) → named key bytes (remove_entry (query key name) es) ≡ entries_without name (named key bytes es)
  unfolding IsDistinct
  named-remove_entry name [] d = refl
  named-remove_entry name (e ∷ es) d =
      ap (λ b. named key bytes (cond b es (e ∷ remove_entry (query key name) es))) (asks name (key e.0))
      ∙ out_cons name e es (remove_entry (query key name) es) (is (key e.0) name) refl (λ at. sym (none_out name e.0 es at d.0)) (named-remove_entry name es d.1)

  taken_cons : (name : Text) (e : S × V) (es fs : List (S × V)) (o : Option V) (v : V) (b : Bool) → (b ≡ true → key e.0 ≡ name) → cond b (Some e.1) o ≡ Some v
      → (o ≡ Some v → size (named key bytes es) ≡ cost (name, bytes v) + size (named key bytes fs))
      → cost (key e.0, bytes e.1) + size (named key bytes es) ≡ cost (name, bytes v) + size (named key bytes (cond b es (e ∷ fs)))
  taken_cons name e es fs o v true at h on = let same : e.1 ≡ v = cc in ap₂ (λ (k : Text) (q : V). cost (k, bytes q) + size (named key bytes es)) (at refl) same
  taken_cons name e es fs o v false at h on = let rest = on h in omega arith

  -- a key that a query finds is its name
  asked_name : (name : Text) (k : S) → query key name k ≡ true → key k ≡ name
  asked_name name k t = is_true (key k) name (sym (asks name (key k)) ∙ t)

  -- what goes was counted
  pub size-remove_entry : (name : Text) (es : List (S × V)) (v : V) → lookup (query key name) es ≡ Some v
      → size (named key bytes es) ≡ cost (name, bytes v) + size (named key bytes (remove_entry (query key name) es))
  size-remove_entry name [] v h = cc
  size-remove_entry name (e ∷ es) v h =
      taken_cons name e es (remove_entry (query key name) es) (lookup (query key name) es) v (query key name e.0) (asked_name name e.0) h (size-remove_entry name es v)

  -- ---- an entry goes to the front

  prefix_at : (name : Text) (es : List (S × V)) (o : Option (S × V)) → IsDistinct (same_key key) (keys_of es) → lookup_entry (query key name) es ≡ o
      → named key bytes (option_map_or (λ f. f ∷ remove_entry (query key name) es) o es)
      ≡ option_map_or (λ text. (name, text) ∷ entries_without name (named key bytes es)) (option_map (λ (f : S × V). bytes f.1) o) (named key bytes es)
  prefix_at name es None d h = refl
  prefix_at name es (Some f) d h =
      ap₂ (λ (q : Text) (l : Entries). (q, bytes f.1) ∷ l)
      (is_true (key f.0) name (sym (asks name (key f.0)) ∙ (Contains-lookup_entry (query key name) es f h).1))
      (named-remove_entry name es d)

  by_entry : (name : Text) (es : List (S × V)) → option_map (λ (f : S × V). bytes f.1) (lookup_entry (query key name) es) ≡ first_at is (named key bytes es) name
  by_entry name es =
      sym (mapped_twice bytes (lookup_entry (query key name) es)) ∙ ap (option_map bytes) (sym (lookup_by_entry (query key name) es)) ∙ lookup-named name es

  pub named-promoted : (name : Text) (es : List (S × V)) → IsDistinct (same_key key) (keys_of es)
      → named key bytes (promoted (query key name) es) ≡ option_map_or (λ text. (name, text) ∷ entries_without name (named key bytes es)) (first_at is (named key bytes es) name) (named key bytes es)
  named-promoted name es d =
      prefix_at name es (lookup_entry (query key name) es) d refl
      ∙ ap (λ o. option_map_or (λ text. (name, text) ∷ entries_without name (named key bytes es)) o (named key bytes es)) (by_entry name es)

  size_at : (name : Text) (es : List (S × V)) (o : Option (S × V)) → lookup_entry (query key name) es ≡ o
      → size (named key bytes (option_map_or (λ f. f ∷ remove_entry (query key name) es) o es)) ≡ size (named key bytes es)
  size_at name es None h = refl
  size_at name es (Some f) h =
      ap (λ (k : Text). cost (k, bytes f.1) + size (named key bytes (remove_entry (query key name) es))) (asked_name name f.0 (Contains-lookup_entry (query key name) es f h).1)
      ∙ sym (size-remove_entry name es f.1 (lookup_by_entry (query key name) es ∙ ap (option_map (λ (g : S × V). g.1)) h))

  pub size-promoted : (name : Text) (es : List (S × V)) → size (named key bytes (promoted (query key name) es)) ≡ size (named key bytes es)
  size-promoted name es = size_at name es (lookup_entry (query key name) es) refl

  -- ---- an entry comes

  -- a new key, where there is room for one more
  pub put-new : (c : LruCache S V) (k : S) (v : V) → first_at is (named key bytes c.entries) (key k) ≡ None → length c.entries < 2 ^ 63 → c.cap ≡ 2 ^ 64 - 1
      → put_entries (same_key key) c k v ≡ (k, v) ∷ c.entries
  put-new c k v none few cap =
      ap (λ o. option_map_or (λ (e : S × V). (e.0, v) ∷ remove_entry (same_key key k) c.entries) o ((k, v) ∷ take (c.cap - 1) c.entries))
      (none_there bytes _ (ap (option_map bytes) (sym (lookup_by_entry (same_key key k) c.entries)) ∙ lookup-named (key k) c.entries ∙ none))
      ∙ ap (λ (l : List (S × V)). (k, v) ∷ l) (take_all (c.cap - 1) c.entries (omega arith))

  -- ---- the last entry goes

  pub named-last : (es : List (S × V)) (x : S × V) → slice_get es (length es - 1) ≡ Some x → named key bytes es ≡ named key bytes (take (length es - 1) es) ++ (key x.0, bytes x.1) ∷ []
  named-last es x h = ap (named key bytes) (cut_last es x h) ∙ map-append _ (take (length es - 1) es) (x ∷ [])

  pub size-last : (es : List (S × V)) (x : S × V) → slice_get es (length es - 1) ≡ Some x → size (named key bytes es) ≡ size (named key bytes (take (length es - 1) es)) + cost (key x.0, bytes x.1)
  size-last es x h = ap size (named-last es x h) ∙ size_push (named key bytes (take (length es - 1) es)) (key x.0, bytes x.1)

  pub size-none : (es : List (S × V)) → slice_get es (length es - 1) ≡ None → size (named key bytes es) ≡ 0
  size-none es h = ap (λ (l : List (S × V)). size (named key bytes l)) (none_last es h)
