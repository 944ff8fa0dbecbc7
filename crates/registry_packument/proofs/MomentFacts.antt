-- The first and the last of moments, taken one after the other.
use Rattle.std.proofs.Common.{◌≡◌, ◌∙◌, ℕ, ◌+◌, ◌<◌, List, [], ◌∷◌, ◌++◌, length, drop, get_or, map, Option, Some, None, refl, ap, sym, arith}
use Rattle.std.proofs.lemmas.List.{drop_more}
use Rattle.registry_packument.specs.Moments.{earlier, later, first_of, last_of}

earlier-assoc : (a b c : Option ℕ) → earlier (earlier a b) c ≡ earlier a (earlier b c)
earlier-assoc None b c = refl
earlier-assoc (Some n) None c = refl
earlier-assoc (Some n) (Some m) None = refl
earlier-assoc (Some n) (Some m) (Some k) = ap (λ (l : ℕ). Some l) (omega arith)

later-assoc : (a b c : Option ℕ) → later (later a b) c ≡ later a (later b c)
later-assoc None b c = refl
later-assoc (Some n) None c = refl
later-assoc (Some n) (Some m) None = refl
later-assoc (Some n) (Some m) (Some k) = ap (λ (l : ℕ). Some l) (omega arith)

pub earlier-none : (a : Option ℕ) → earlier a None ≡ a
earlier-none None = refl
earlier-none (Some n) = refl

pub later-none : (a : Option ℕ) → later a None ≡ a
later-none None = refl
later-none (Some n) = refl

first_of-append : (ns ms : List ℕ) → first_of (ns ++ ms) ≡ earlier (first_of ns) (first_of ms)
first_of-append [] ms = refl
first_of-append (n ∷ ns) ms = ap (earlier (Some n)) (first_of-append ns ms) ∙ sym (earlier-assoc (Some n) (first_of ns) (first_of ms))

last_of-append : (ns ms : List ℕ) → last_of (ns ++ ms) ≡ later (last_of ns) (last_of ms)
last_of-append [] ms = refl
last_of-append (n ∷ ns) ms = ap (later (Some n)) (last_of-append ns ms) ∙ sym (later-assoc (Some n) (last_of ns) (last_of ms))

-- of two lists, the first of both
pub first_joined : (j a b : Option ℕ) (ns ms : List ℕ) → j ≡ earlier a b → a ≡ first_of ns → b ≡ first_of ms → j ≡ first_of (ns ++ ms)
first_joined j a b ns ms e f g = e ∙ (λ i. earlier (f i) (g i)) ∙ sym (first_of-append ns ms)

pub last_joined : (j a b : Option ℕ) (ns ms : List ℕ) → j ≡ later a b → a ≡ last_of ns → b ≡ last_of ms → j ≡ last_of (ns ++ ms)
last_joined j a b ns ms e f g = e ∙ (λ i. later (f i) (g i)) ∙ sym (last_of-append ns ms)

-- the moment that is next is taken, of rows that have moments
pub first_next : {A : Type 0} (moment : A → ℕ) (before now whole : Option ℕ) (rows : List A) (i : ℕ) (row : A) → i < length rows → row ≡ get_or rows i row
    → now ≡ earlier before (Some (moment row)) → earlier before (first_of (map moment (drop i rows))) ≡ whole → earlier now (first_of (map moment (drop (i + 1) rows))) ≡ whole
first_next moment before now whole rows i row lt is e h =
    let left : drop i rows ≡ row ∷ drop (i + 1) rows = drop_more rows i row lt ∙ ap (λ r. r ∷ drop (i + 1) rows) (sym is) in
    let rest = first_of (map moment (drop (i + 1) rows)) in
    ap (λ o. earlier o rest) e ∙ earlier-assoc before (Some (moment row)) rest ∙ (rw left at h)

pub last_next : {A : Type 0} (moment : A → ℕ) (before now whole : Option ℕ) (rows : List A) (i : ℕ) (row : A) → i < length rows → row ≡ get_or rows i row
    → now ≡ later before (Some (moment row)) → later before (last_of (map moment (drop i rows))) ≡ whole → later now (last_of (map moment (drop (i + 1) rows))) ≡ whole
last_next moment before now whole rows i row lt is e h =
    let left : drop i rows ≡ row ∷ drop (i + 1) rows = drop_more rows i row lt ∙ ap (λ r. r ∷ drop (i + 1) rows) (sym is) in
    let rest = last_of (map moment (drop (i + 1) rows)) in
    ap (λ o. later o rest) e ∙ later-assoc before (Some (moment row)) rest ∙ (rw left at h)

-- the same, of moments alone
pub first_after : (before now whole : Option ℕ) (ns : List ℕ) (i n : ℕ) → i < length ns → n ≡ get_or ns i n
    → now ≡ earlier before (Some n) → earlier before (first_of (drop i ns)) ≡ whole → earlier now (first_of (drop (i + 1) ns)) ≡ whole
first_after before now whole ns i n lt is e h =
    let left : drop i ns ≡ n ∷ drop (i + 1) ns = drop_more ns i n lt ∙ ap (λ m. m ∷ drop (i + 1) ns) (sym is) in
    let rest = first_of (drop (i + 1) ns) in
    ap (λ o. earlier o rest) e ∙ earlier-assoc before (Some n) rest ∙ (rw left at h)

pub last_after : (before now whole : Option ℕ) (ns : List ℕ) (i n : ℕ) → i < length ns → n ≡ get_or ns i n
    → now ≡ later before (Some n) → later before (last_of (drop i ns)) ≡ whole → later now (last_of (drop (i + 1) ns)) ≡ whole
last_after before now whole ns i n lt is e h =
    let left : drop i ns ≡ n ∷ drop (i + 1) ns = drop_more ns i n lt ∙ ap (λ m. m ∷ drop (i + 1) ns) (sym is) in
    let rest = last_of (drop (i + 1) ns) in
    ap (λ o. later o rest) e ∙ later-assoc before (Some n) rest ∙ (rw left at h)
