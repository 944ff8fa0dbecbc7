-- What a list is mapped to grows with one more of it.
use Rattle.std.proofs.Common.{◌≡◌, ◌∙◌, ℕ, ◌+◌, ◌<◌, List, [], ◌∷◌, ◌++◌, append-nil, append_assoc, ap, get_or, length, map, refl, sym, take}
use Rattle.std.specs.List.{flat_map}
use Rattle.std.proofs.lemmas.Grind.{flat_map-append}
use Rattle.std.proofs.lemmas.List.{take_more}

taken : {X : Type 0} (xs : List X) (i : ℕ) (x : X) → i < length xs → x ≡ get_or xs i x → take (i + 1) xs ≡ take i xs ++ x ∷ []
taken xs i x within is_next = take_more xs i x within ∙ ap (λ y. take i xs ++ y ∷ []) (sym is_next)

-- f of one more
pub flat_next : {X Y : Type 0} (f : X → List Y) (xs : List X) (i : ℕ) (d : X) → i < length xs → flat_map f (take (i + 1) xs) ≡ flat_map f (take i xs) ++ f (get_or xs i d)
flat_next f xs i d within =
    ap (flat_map f) (take_more xs i d within) ∙ flat_map-append f (take i xs) (get_or xs i d ∷ []) ∙ ap (λ ys. flat_map f (take i xs) ++ ys) (append-nil (f (get_or xs i d)))

map_more : {X E : Type 0} (g : X → E) (xs : List X) (x : X) → map g (xs ++ x ∷ []) ≡ map g xs ++ g x ∷ []
map_more g [] x = refl
map_more g (y ∷ xs) x = ap (λ l. g y ∷ l) (map_more g xs x)

-- f of what g makes of one more
pub mapped_next : {X E Y : Type 0} (g : X → E) (f : E → List Y) (xs : List X) (i : ℕ) (x : X) → i < length xs → x ≡ get_or xs i x
    → flat_map f (map g (take (i + 1) xs)) ≡ flat_map f (map g (take i xs)) ++ f (g x)
mapped_next g f xs i x within is_next =
    ap (λ ys. flat_map f (map g ys)) (taken xs i x within is_next) ∙ ap (flat_map f) (map_more g (take i xs) x)
    ∙ flat_map-append f (map g (take i xs)) (g x ∷ []) ∙ ap (λ ys. flat_map f (map g (take i xs)) ++ ys) (append-nil (f (g x)))

-- what was there, and then a, and then b
pub added : {Y : Type 0} (old mid new a b : List Y) (both : List Y) → mid ≡ old ++ a → new ≡ mid ++ b → both ≡ a ++ b → new ≡ old ++ both
added old mid new a b both first second all = second ∙ ap (λ ys. ys ++ b) first ∙ append_assoc old a b ∙ ap (λ ys. old ++ ys) (sym all)
