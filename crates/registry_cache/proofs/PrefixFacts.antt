-- The longest prefix of a list of texts that takes no more than some.
use Rattle.std.proofs.Common.{◌≡◌, ℕ, ◌+◌, ◌-◌, ◌<◌, ◌≤◌, nat_le, Bool, true, false, cond, [], ◌∷◌, ◌++◌, Option, refl, ap, ◌∙◌, subst, arith}
use Rattle.std.proofs.lemmas.Bool.{leb-true, leb-false, le-leb, lt-leb}
use Rattle.registry_names.specs.Texts.{Text}
use Rattle.registry_cache.specs.Caches.{Entries, Cache, cache, cost, entry_cost, size, prefix}
use Rattle.registry_cache.specs.Laws.{IsLongest}

fits_cons : (room : ℕ) (e : Text × Text) (fs : Entries) (b : Bool) → nat_le (cost e) room ≡ b → size fs ≤ room - cost e → size (cond b (e ∷ fs) []) ≤ room
fits_cons room e fs true t h = let low = leb-true (cost e) room t in omega arith
fits_cons room e fs false t h = omega arith

pub fits : (room : ℕ) (es : Entries) → size (prefix room es) ≤ room
fits room [] = omega arith
fits room (e ∷ es) = fits_cons room e (prefix (room - cost e) es) (nat_le (cost e) room) refl (fits (room - cost e) es)

pub room_fits : (s : Cache) (room limit : ℕ) (es : Entries) (large : Option (Text × Text)) → s ≡ cache (prefix room es) large limit → size s.entries ≤ room
room_fits s room limit es large e = let same = ap (λ (t : Cache). size t.entries) e in let low = fits room es in omega arith

rest_cons : (e : Text × Text) (es fs : Entries) (b : Bool) → (rest : Entries) × (es ≡ fs ++ rest) → (rest : Entries) × (e ∷ es ≡ cond b (e ∷ fs) [] ++ rest)
rest_cons e es fs true h = (h.0, ap (λ (l : Entries). e ∷ l) h.1)
rest_cons e es fs false h = (e ∷ es, refl)

begins : (room : ℕ) (es : Entries) → (rest : Entries) × (es ≡ prefix room es ++ rest)
begins room [] = ([], refl)
begins room (e ∷ es) = rest_cons e es (prefix (room - cost e) es) (nat_le (cost e) room) (begins (room - cost e) es)

no_more : (room : ℕ) (e d : Text × Text) (es fs rest : Entries) (b : Bool) → nat_le (cost e) room ≡ b → e ∷ es ≡ cond b (e ∷ fs) [] ++ d ∷ rest
    → (es ≡ fs ++ d ∷ rest → room - cost e < size fs + cost d) → room < size (cond b (e ∷ fs) []) + cost d
no_more room e d es fs rest true t h on = let same : es ≡ fs ++ d ∷ rest = cc in let low = on same in let there = leb-true (cost e) room t in omega arith
no_more room e d es fs rest false t h on = let same : e ≡ d = cc in let far : room < cost d = subst (λ (q : Text × Text). room < cost q) same (leb-false (cost e) room t) in omega arith

longest : (room : ℕ) (es : Entries) (d : Text × Text) (rest : Entries) → es ≡ prefix room es ++ d ∷ rest → room < size (prefix room es) + cost d
longest room [] d rest h = cc
longest room (e ∷ es) d rest h = no_more room e d es (prefix (room - cost e) es) rest (nat_le (cost e) room) refl h (λ same. longest (room - cost e) es d rest same)

pub is_longest : (room : ℕ) (es : Entries) → IsLongest room es
is_longest room es = record { room_enough = fits room es; begins = begins room es; longest = longest room es }

pub all_stay : (room : ℕ) (es : Entries) → size es ≤ room → prefix room es ≡ es
all_stay room [] h = refl
all_stay room (e ∷ es) h =
    ap (λ b. cond b (e ∷ prefix (room - cost e) es) []) (le-leb (cost e) room (omega arith))
    ∙ ap (λ (l : Entries). e ∷ l) (all_stay (room - cost e) es (omega arith))

pub size_push : (us : Entries) (d : Text × Text) → size (us ++ d ∷ []) ≡ size us + cost d
size_push [] d = omega arith
size_push (e ∷ us) d = let on = size_push us d in omega arith

short_cons : (room : ℕ) (e d : Text × Text) (us : Entries) (b : Bool) → nat_le (cost e) room ≡ b → room < cost e + size (us ++ d ∷ [])
    → (room - cost e < size (us ++ d ∷ []) → prefix (room - cost e) (us ++ d ∷ []) ≡ prefix (room - cost e) us)
    → cond b (e ∷ prefix (room - cost e) (us ++ d ∷ [])) [] ≡ cond b (e ∷ prefix (room - cost e) us) []
short_cons room e d us true t h on = let there = leb-true (cost e) room t in ap (λ (l : Entries). e ∷ l) (on (omega arith))
short_cons room e d us false t h on = refl

-- where there isn't room for all, the last isn't in the prefix
pub prefix_push : (room : ℕ) (us : Entries) (d : Text × Text) → room < size (us ++ d ∷ []) → prefix room (us ++ d ∷ []) ≡ prefix room us
prefix_push room [] d h = ap (λ b. cond b (d ∷ []) []) (lt-leb (cost d) room (omega arith))
prefix_push room (e ∷ us) d h = short_cons room e d us (nat_le (cost e) room) refl h (prefix_push (room - cost e) us d)

-- ---- whether an entry fits

pub fits_within : (l r n limit : ℕ) (b : Bool) → entry_cost + (n + r) ≡ limit → nat_le l r ≡ b → nat_le (entry_cost + (n + l)) limit ≡ b
fits_within l r n limit true e t = let low = leb-true l r t in le-leb (entry_cost + (n + l)) limit (omega arith)
fits_within l r n limit false e t = let far = leb-false l r t in lt-leb (entry_cost + (n + l)) limit (omega arith)
