-- Keys of a list, and one more behind.
use Rattle.std.proofs.Common.{◌≡◌, ◌∙◌, ℕ, ◌+◌, ◌<◌, Bool, true, false, ◌||◌, List, [], ◌∷◌, ◌++◌, map, take, length, get_or, Option, Some, None, is_some, refl, sym, ap, true≢false}
use Rattle.std.specs.Prelude.{IsSome}
use Rattle.std.specs.declared.cmp.Ordering.{Ordering}
use Rattle.std.proofs.lemmas.List.{take_more}
use Rattle.registry_names.specs.Keys.{IsKey}
use Rattle.registry_names.specs.Maps.{MapBy, among, at, entries, keys}
use Rattle.registry_names.proofs.MapFacts.{at-entries}
use Rattle.registry_names.proofs.EntryFacts.{among_keys}

or_false : (b : Bool) → (b || false) ≡ b
or_false true = refl
or_false false = refl

either_of : (a b c : Bool) → (a || (b || c)) ≡ ((a || b) || c)
either_of true b c = refl
either_of false b c = refl

-- a key is among a list with one more behind where it is among the list, or is that one
pub among_more : {K : Type 0} (same : K → K → Bool) (ks : List K) (k q : K) → among same (ks ++ k ∷ []) q ≡ (among same ks q || same k q)
among_more same [] k q = or_false (same k q)
among_more same (j ∷ ks) k q = ap (λ b. same j q || b) (among_more same ks k q) ∙ either_of (same j q) (among same ks q) (same k q)

-- the keys of a map are those where it has a value
pub among_all : {K X : Type 0} {cmp : K → K → Ordering} {same : K → K → Bool} → IsKey cmp same → (m : MapBy cmp X) (k : K) → among same (keys (entries m)) k ≡ is_some (at m k)
among_all key m k = among_keys key (entries m) k ∙ ap is_some (sym (at-entries key m k))

map_more : {A B : Type 0} (f : A → B) (xs : List A) (x : A) → map f (xs ++ x ∷ []) ≡ map f xs ++ f x ∷ []
map_more f [] x = refl
map_more f (y ∷ xs) x = ap (λ l. f y ∷ l) (map_more f xs x)

-- the keys up to the next one
pub next_taken : {A B : Type 0} (f : A → B) (xs : List A) (i : ℕ) (x : A) → i < length xs → x ≡ get_or xs i x → map f (take (i + 1) xs) ≡ map f (take i xs) ++ f x ∷ []
next_taken f xs i x within is_next = ap (map f) (take_more xs i x within ∙ ap (λ n. take i xs ++ n ∷ []) (sym is_next)) ∙ map_more f (take i xs) x

pub some_at : {X : Type 0} (o : Option X) → is_some o ≡ true → (x : X) × (o ≡ Some x)
some_at None h = absurd (true≢false (sym h))
some_at (Some x) h = (x, refl)

pub none_at : {X : Type 0} (o : Option X) → is_some o ≡ false → o ≡ None
none_at None h = refl
none_at (Some x) h = absurd (true≢false h)

pub one_at : {X : Type 0} (o : Option X) → IsSome o → (x : X) × (o ≡ Some x)
one_at None h = absurd (true≢false (sym h))
one_at (Some x) h = (x, refl)
