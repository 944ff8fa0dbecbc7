-- Packages in the order of their names.
use Rattle.registry_tables.proofs.Words.{◌≡◌, ◌∙◌, true, cond, List, [], ◌∷◌, ◌++◌, length, map, Some, Result, Ok, Err, IfOk, Less, is_lt, refl, sym, ap, append_assoc, AllByRecursion, BTreeMap}
use Rattle.registry_tables.proofs.Words.{Updates, is_at, get, and_from, map-append, first_at, rises, Text, text_cmp, is, is_sym, is_tie, Level, PackageLevel, level_entry}
use Rattle.std.specs.List.Sorted.{IsStrictlySortedBy}
use Rattle.std.specs.Map.{lookup, keys_of}
use Rattle.std.specs.FinMap.Entries.{below_all}

-- ---- the entries of a map, one after another

pub next_entry : (done : List PackageLevel) (p : PackageLevel) (rest before all : List (Text × Level)) → before ≡ level_entry p ∷ rest → map level_entry done ++ before ≡ all → map level_entry (done ++ p ∷ []) ++ rest ≡ all
next_entry done p rest before all step so_far =
    ap (λ es. es ++ rest) (map-append level_entry done (p ∷ [])) ∙ append_assoc (map level_entry done) (level_entry p ∷ []) rest ∙ sym (ap (λ es. map level_entry done ++ es) step) ∙ so_far

-- the keys of a map rise
below : (k : Text) (es : List (Text × Level)) → AllByRecursion (λ y. text_cmp k y ≡ Less) (keys_of es) → below_all text_cmp k es ≡ true
below k [] h = refl
below k (e ∷ es) h = and_from _ _ (ap is_lt h.0) (below k es h.1)

pub keys_rise : (es : List (Text × Level)) → IsStrictlySortedBy text_cmp (keys_of es) → rises text_cmp es ≡ true
unfolding IsStrictlySortedBy
keys_rise [] h = refl
keys_rise (e ∷ es) h = and_from _ _ (below e.0 es h.0) (keys_rise es h.1)

-- ---- what is found in a map

pub looked_up : (es : List (Text × Level)) (q : Text) → lookup (is_at (text_cmp q)) es ≡ first_at is es q
looked_up [] q = refl
looked_up (e ∷ es) q = ap (λ b. cond b (Some e.1) (lookup (is_at (text_cmp q)) es)) (sym (is_tie q e.0) ∙ is_sym q e.0) ∙ ap (cond (is e.0 q) (Some e.1)) (looked_up es q)

-- a level is put, and is the last so far
pub next_put : (old new : BTreeMap Text Level) (p : PackageLevel) (q : Text) → Updates text_cmp old new p.name (Some p.level) → get text_cmp new q ≡ cond (is p.name q) (Some p.level) (get text_cmp old q)
next_put old new p q put = put.0 q ∙ ap (λ b. cond b (Some p.level) (get text_cmp old q)) (sym (is_tie p.name q))

pub emptied : {X : Type 0} (xs : List X) → length xs ≡ 0 → xs ≡ []
emptied [] h = refl
emptied (x ∷ xs) h = absurd cc

-- two things that hold of an answer
pub both_ok : {X E : Type 0} (r : Result X E) (P Q : X → Type 0) → IfOk r P → IfOk r Q → IfOk r (λ x. P x × Q x)
both_ok (Ok x) P Q p q = (p, q)
both_ok (Err e) P Q p q = tt
