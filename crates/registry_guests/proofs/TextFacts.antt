-- Words that are texts.
use Rattle.std.proofs.Common.{◌≡◌, ◌<◌, ◌≤◌, ◌+◌, ◌++◌, ◌∷◌, ◌∙◌, [], ℕ, List, IsUtf8, All, length, get_or, take, ap, sym, subst, arith, below_more}
use Rattle.std.proofs.lemmas.List.{get_or-map, get_or_default, length-map, take_all, take_more}
use Rattle.std.specs.Global.{Vec}
use Rattle.registry_guests.specs.Spelling.{words}

-- two facts at once
pub both : {A B : Type 0} → A → B → A × B
both a b = (a, b)

len-words : (ws : List (Vec ℕ)) → length (words ws) ≡ length ws
len-words ws = length-map ws (λ (w : Vec ℕ). w.items)

pub word-at : (ws : List (Vec ℕ)) (i : ℕ) (w : Vec ℕ) (d : List ℕ) → i < length ws → w ≡ get_or ws i w → get_or (words ws) i d ≡ w.items
word-at ws i w d lt is = get_or-map (λ (v : Vec ℕ). v.items) ws i w d lt ∙ ap (λ (v : Vec ℕ). v.items) (sym is)

-- one more text
pub texts-more : (ws : List (Vec ℕ)) (i : ℕ) (w : Vec ℕ) (old new : List (List ℕ)) (text : List ℕ) → i < length ws → w ≡ get_or ws i w
    → old ≡ take i (words ws) → new ≡ old ++ text ∷ [] → text ≡ w.items → new ≡ take (i + 1) (words ws)
texts-more ws i w old new text lt is before more same =
    let within : i < length (words ws) = omega (arith, lt, len-words ws) in
    let last : take (i + 1) (words ws) ≡ take i (words ws) ++ get_or (words ws) i [] ∷ [] = take_more (words ws) i [] within in
    more ∙ ap (λ (l : List (List ℕ)). l ++ text ∷ []) before ∙ ap (λ (t : List ℕ). take i (words ws) ++ t ∷ []) (same ∙ sym (word-at ws i w [] lt is)) ∙ sym last

pub utf8-more : (ws : List (Vec ℕ)) (i : ℕ) (w : Vec ℕ) → i < length ws → w ≡ get_or ws i w → ((j : ℕ) → j < i → IsUtf8 (get_or (words ws) j [])) → IsUtf8 w.items
    → (j : ℕ) → j < i + 1 → IsUtf8 (get_or (words ws) j [])
utf8-more ws i w lt is before last = below_more (λ j. IsUtf8 (get_or (words ws) j [])) i before (subst (λ (t : List ℕ). IsUtf8 t) (sym (word-at ws i w [] lt is)) last)

-- all of them
pub texts-all : (ws : List (Vec ℕ)) (i : ℕ) (texts : List (List ℕ)) → length ws ≤ i → texts ≡ take i (words ws) → texts ≡ words ws
texts-all ws i texts le is = is ∙ take_all i (words ws) (omega (arith, le, len-words ws))

pub utf8-all : (ws : List (Vec ℕ)) (i : ℕ) → length ws ≤ i → ((j : ℕ) → j < i → IsUtf8 (get_or (words ws) j [])) → All IsUtf8 (words ws)
utf8-all ws i le each k d lt = subst (λ (t : List ℕ). IsUtf8 t) (get_or_default (words ws) k [] d lt) (each k (omega (arith, lt, le, len-words ws)))

-- one of them isn't a text
pub utf8-at : (ws : List (Vec ℕ)) (i : ℕ) (w : Vec ℕ) → i < length ws → w ≡ get_or ws i w → All IsUtf8 (words ws) → IsUtf8 w.items
utf8-at ws i w lt is all = subst (λ (t : List ℕ). IsUtf8 t) (word-at ws i w [] lt is) (all i [] (omega (arith, lt, len-words ws)))
