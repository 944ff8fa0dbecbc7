-- A search in rows is one in what contracts see of them.
use Rattle.std.proofs.Common.{◌≡◌, ◌∙◌, Bool, true, false, cond, ◌&&◌, ◌||◌, List, [], ◌∷◌, map, refl, sym, ap, ap₂, Option, Some, None, option_map, find, Ordering, is_eq}
use Rattle.std.specs.List.{filter, list_any}
use Rattle.registry_names.specs.Keys.{IsKey}
use Rattle.registry_names.specs.Texts.{Text, is, text_cmp}
use Rattle.registry_names.proofs.KeyFacts.{text_key}
use Rattle.registry_check.specs.Rules.{has}

module _ {X Y : Type 0} (f : Y → Bool) (g : X → Y) where
  pub any_mapped : (xs : List X) → list_any (λ x. f (g x)) xs ≡ list_any f (map g xs)
  any_mapped [] = refl
  any_mapped (x ∷ xs) = ap (λ b. f (g x) || b) (any_mapped xs)

  module _ {Z : Type 0} (h : Y → Z) where
    seen : (b : Bool) (x : X) (o : Option X) (p : Option Y) → option_map (λ (x : X). h (g x)) o ≡ option_map h p → option_map (λ (x : X). h (g x)) (cond b (Some x) o) ≡ option_map h (cond b (Some (g x)) p)
    seen true x o p e = refl
    seen false x o p e = e

    pub find_mapped : (xs : List X) → option_map (λ (x : X). h (g x)) (find (λ x. f (g x)) xs) ≡ option_map h (find f (map g xs))
    find_mapped [] = refl
    find_mapped (x ∷ xs) = seen (f (g x)) x _ _ (find_mapped xs)

-- one part after another
pub twice : {X Y Z : Type 0} (f : X → Y) (g : Y → Z) (o : Option X) → option_map (λ x. g (f x)) o ≡ option_map g (option_map f o)
twice f g None = refl
twice f g (Some x) = refl

-- ---- rows that compare as equal to a key

module _ {X K V : Type 0} {cmp : K → K → Ordering} {same : K → K → Bool} (key : IsKey cmp same) (entry : X → K × V) (k : K) where
  -- are those that have it
  pub has_mapped : (xs : List X) → list_any (λ x. is_eq (cmp (entry x).0 k)) xs ≡ has same (map entry xs) k
  has_mapped [] = refl
  has_mapped (x ∷ xs) = ap₂ (λ a b. a || b) (sym (key.test (entry x).0 k)) (has_mapped xs)

  pub first_mapped : {Z : Type 0} (h : K × V → Z) (xs : List X) → option_map (λ x. h (entry x)) (find (λ x. is_eq (cmp (entry x).0 k)) xs) ≡ option_map h (find (λ (e : K × V). same e.0 k) (map entry xs))
  first_mapped h [] = refl
  first_mapped h (x ∷ xs) =
      ap (λ b. option_map (λ (y : X). h (entry y)) (cond b (Some x) (find (λ (y : X). is_eq (cmp (entry y).0 k)) xs))) (sym (key.test (entry x).0 k))
      ∙ seen (λ (e : K × V). same e.0 k) entry h (same (entry x).0 k) x _ _ (first_mapped h xs)

-- rows whose keys begin with a text
module _ {X R V : Type 0} (entry : X → (Text × R) × V) (p : Text) where
  pub begin_mapped : (xs : List X) → list_any (λ x. is_eq (text_cmp (entry x).0.0 p)) xs ≡ list_any (λ (e : (Text × R) × V). is e.0.0 p) (map entry xs)
  begin_mapped [] = refl
  begin_mapped (x ∷ xs) = ap₂ (λ a b. a || b) (sym (text_key.test (entry x).0.0 p)) (begin_mapped xs)

-- rows that are kept by one test, and of which some pass another
module _ {X Y : Type 0} (p g : X → Bool) (f : Y → Bool) (entry : X → Y) (agree : (x : X) → (p x && g x) ≡ f (entry x)) where
  one_kept : (b : Bool) (x : X) (xs : List X) (rest : Bool) → list_any g xs ≡ rest → list_any g (cond b (x ∷ xs) xs) ≡ ((b && g x) || rest)
  one_kept true x xs rest next = ap (λ b. g x || b) next
  one_kept false x xs rest next = next

  pub kept_mapped : (xs : List X) → list_any g (filter p xs) ≡ list_any f (map entry xs)
  kept_mapped [] = refl
  kept_mapped (x ∷ xs) = one_kept (p x) x (filter p xs) _ (kept_mapped xs) ∙ ap (λ b. b || list_any f (map entry xs)) (agree x)
