-- What is read of arrays and objects, from a place on.
use Rattle.std.proofs.Common.{◌≡◌, ◌∙◌, ◌+◌, ◌<◌, ◌≤◌, ℕ, suc, List, [], ◌∷◌, ◌++◌, length, get_or, drop, map, Option, Some, None, option_map, option_and_then, refl, ap, sym, append_assoc, string_bytes}
use Rattle.std.proofs.lemmas.List.{append-nil, drop_all, drop_more}
use Rattle.serde_json.specs.Find.{as_str}
use Rattle.serde_json.specs.View.{view, items_view, members_view}
use Rattle.serde_json.specs.declared.value.Value.{Value}
use Rattle.serde_json.proofs.Views.{Entry}
use Rattle.registry_access.specs.Spellings.{grant_named}
use Rattle.registry_access.specs.declared.grant.Grant.{Grant}
use Rattle.registry_packument.specs.declared.list.PackageLevel.{PackageLevel}
use Rattle.registry_npm.specs.Forms.{granted_level, grants_of, names_of, size_of}

abbrev Text : Type 0
Text = List ℕ

-- ---- texts of an array

pub shift : {A : Type 0} (done : List A) (x : A) (o : Option (List A))
    → option_map (λ (xs : List A). done ++ xs) (option_map (λ (xs : List A). x ∷ xs) o) ≡ option_map (λ (xs : List A). (done ++ x ∷ []) ++ xs) o
shift done x None = refl
shift {A} done x (Some xs) = ap (λ (ys : List A). Some ys) (sym (append_assoc done (x ∷ []) xs))

pub none-before : {A : Type 0} (o : Option (List A)) → o ≡ option_map (λ (xs : List A). [] ++ xs) o
none-before None = refl
none-before (Some xs) = refl

pub name_first : (vs : List Value) → names_of (items_view vs) ≡ option_map (λ (ts : List Text). [] ++ ts) (names_of (items_view (drop 0 vs)))
name_first vs = none-before (names_of (items_view vs))

pub name_step : (done : List Text) (all : Option (List Text)) (vs : List Value) (i : ℕ) (d : Value) (t : Text) → i < length vs → d ≡ get_or vs i d
    → all ≡ option_map (λ (ts : List Text). done ++ ts) (names_of (items_view (drop i vs))) → Some t ≡ as_str (view d)
    → all ≡ option_map (λ (ts : List Text). (done ++ t ∷ []) ++ ts) (names_of (items_view (drop (i + 1) vs)))
name_step done all vs i d t lt same h is =
    let left : drop i vs ≡ d ∷ drop (i + 1) vs = drop_more vs i d lt ∙ ap (λ (v : Value). v ∷ drop (i + 1) vs) (sym same) in
    h ∙ rw (left, ← is) (shift done t (names_of (items_view (drop (i + 1) vs))))

pub name_none : (done : List Text) (all : Option (List Text)) (vs : List Value) (i : ℕ) (d : Value) → i < length vs → d ≡ get_or vs i d
    → all ≡ option_map (λ (ts : List Text). done ++ ts) (names_of (items_view (drop i vs))) → None ≡ as_str (view d) → None ≡ all
name_none done all vs i d lt same h is =
    let left : drop i vs ≡ d ∷ drop (i + 1) vs = drop_more vs i d lt ∙ ap (λ (v : Value). v ∷ drop (i + 1) vs) (sym same) in
    sym (h ∙ rw (left, ← is) refl)

pub name_last : (done : List Text) (all : Option (List Text)) (vs : List Value) (i : ℕ) → length vs ≤ i
    → all ≡ option_map (λ (ts : List Text). done ++ ts) (names_of (items_view (drop i vs))) → Some done ≡ all
name_last done all vs i past h = sym (h ∙ rw (drop_all i vs past) (ap (λ (ts : List Text). Some ts) (append-nil done)))

-- ---- grants of an object

abbrev pub rows_of : List Entry → Option (List PackageLevel)
rows_of es = option_map (map granted_level) (grants_of (members_view es))

mapped : (p : Text) (grant : Grant) (o : Option (List (Text × Grant)))
    → option_map (map granted_level) (option_map (λ (gs : List (Text × Grant)). (p, grant) ∷ gs) o) ≡ option_map (λ (rs : List PackageLevel). granted_level (p, grant) ∷ rs) (option_map (map granted_level) o)
mapped p grant None = refl
mapped p grant (Some gs) = refl

pub row_first : (es : List Entry) → rows_of es ≡ option_map (λ (rs : List PackageLevel). [] ++ rs) (rows_of es)
row_first es = none-before (rows_of es)

pub row_step : (done : List PackageLevel) (all : Option (List PackageLevel)) (es rest : List Entry) (e : Entry) (grant : Grant)
    → all ≡ option_map (λ (rs : List PackageLevel). done ++ rs) (rows_of es) → es ≡ e ∷ rest → Some grant ≡ option_and_then grant_named (as_str (view e.1))
    → all ≡ option_map (λ (rs : List PackageLevel). (done ++ granted_level (string_bytes e.0, grant) ∷ []) ++ rs) (rows_of rest)
row_step done all es rest e grant h split is =
    h ∙ rw (split, ← is) (rw (mapped (string_bytes e.0) grant (grants_of (members_view rest))) (shift done (granted_level (string_bytes e.0, grant)) (rows_of rest)))

pub row_none : (done : List PackageLevel) (all : Option (List PackageLevel)) (es rest : List Entry) (e : Entry)
    → all ≡ option_map (λ (rs : List PackageLevel). done ++ rs) (rows_of es) → es ≡ e ∷ rest → None ≡ option_and_then grant_named (as_str (view e.1)) → None ≡ all
row_none done all es rest e h split is = sym (h ∙ rw (split, ← is) refl)

-- ---- rows of a list

-- the next one is made
pub map_step : {A B : Type 0} (f : A → B) (done new whole : List B) (xs : List A) (i : ℕ) (x : A) (t : B) → i < length xs → x ≡ get_or xs i x → t ≡ f x → new ≡ done ++ t ∷ []
    → done ++ map f (drop i xs) ≡ whole → new ++ map f (drop (i + 1) xs) ≡ whole
map_step {A} f done new whole xs i x t lt same made e h =
    let left : drop i xs ≡ x ∷ drop (i + 1) xs = drop_more xs i x lt ∙ ap (λ (y : A). y ∷ drop (i + 1) xs) (sym same) in
    rw (e, made) (append_assoc done (f x ∷ []) (map f (drop (i + 1) xs)) ∙ (rw left at h))

-- all are made
pub map_last : {A B : Type 0} (f : A → B) (done whole : List B) (xs : List A) (i : ℕ) → length xs ≤ i → done ++ map f (drop i xs) ≡ whole → done ≡ whole
map_last f done whole xs i past h = sym (append-nil done) ∙ (rw (drop_all i xs past) at h)

-- ---- sizes

pub size_length : (es : List Entry) → length es ≡ size_of (members_view es)
size_length [] = refl
size_length (e ∷ es) = ap suc (size_length es)
