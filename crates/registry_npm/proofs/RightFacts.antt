-- What the registry's documents say of members and teams, and the rights that follow, from a place on.
use Rattle.std.proofs.Common.{◌≡◌, ◌∙◌, ◌+◌, ◌<◌, ◌≤◌, ℕ, Bool, true, false, List, [], ◌∷◌, ◌++◌, length, get_or, drop, map, Option, Some, None, option_map, option_and_then, refl, ap, sym, append_assoc, string_bytes}
use Rattle.std.specs.List.{filter}
use Rattle.std.proofs.lemmas.List.{append-nil, drop_all, drop_more}
use Rattle.serde_json.specs.Find.{as_str}
use Rattle.serde_json.specs.View.{view, members_view}
use Rattle.serde_json.proofs.Views.{Entry}
use Rattle.registry_access.specs.Levels.{larger}
use Rattle.registry_access.specs.Spellings.{role_named}
use Rattle.registry_access.specs.declared.levels.Level.{Level}
use Rattle.registry_access.specs.declared.levels.Level.TheVariants.{Nothing, Read, Write}
use Rattle.registry_access.specs.declared.role.Role.{Role}
use Rattle.registry_names.specs.Idents.{is_ident}
use Rattle.registry_names.specs.Texts.{Text}
use Rattle.registry_packument.specs.declared.list.Member.{Member}
use Rattle.registry_packument.specs.declared.list.PackageLevel.{PackageLevel}
use Rattle.registry_npm.specs.Collaborators.{idents_of, level_of_row, level_said, members_of}
use Rattle.registry_npm.proofs.FormFacts.{none-before, shift}

-- ---- members of an object

abbrev pub rows_of : List Entry → Option (List Member)
rows_of es = members_of (members_view es)

pub row_first : (es : List Entry) → rows_of es ≡ option_map (λ (rs : List Member). [] ++ rs) (rows_of es)
row_first es = none-before (rows_of es)

abbrev member_of : Text → Role → Member
member_of u role = record { user = u; role = role }

pub row_step : (done : List Member) (all : Option (List Member)) (es rest : List Entry) (e : Entry) (role : Role)
    → all ≡ option_map (λ (rs : List Member). done ++ rs) (rows_of es) → es ≡ e ∷ rest → Some role ≡ option_and_then role_named (as_str (view e.1))
    → all ≡ option_map (λ (rs : List Member). (done ++ member_of (string_bytes e.0) role ∷ []) ++ rs) (rows_of rest)
row_step done all es rest e role h split is = h ∙ rw (split, ← is) (shift done (member_of (string_bytes e.0) role) (rows_of rest))

pub row_none : (done : List Member) (all : Option (List Member)) (es rest : List Entry) (e : Entry)
    → all ≡ option_map (λ (rs : List Member). done ++ rs) (rows_of es) → es ≡ e ∷ rest → None ≡ option_and_then role_named (as_str (view e.1)) → None ≡ all
row_none done all es rest e h split is = sym (h ∙ rw (split, ← is) refl)

-- ---- names of teams

pub ident_first : (xs : List Text) → idents_of xs ≡ option_map (λ (ts : List Text). [] ++ ts) (idents_of (drop 0 xs))
ident_first xs = none-before (idents_of xs)

pub ident_step : (done : List Text) (all : Option (List Text)) (xs : List Text) (i : ℕ) (t : Text) → i < length xs → t ≡ get_or xs i t
    → all ≡ option_map (λ (ts : List Text). done ++ ts) (idents_of (drop i xs)) → is_ident t ≡ true
    → all ≡ option_map (λ (ts : List Text). (done ++ t ∷ []) ++ ts) (idents_of (drop (i + 1) xs))
ident_step done all xs i t lt same h is =
    let left : drop i xs ≡ t ∷ drop (i + 1) xs = drop_more xs i t lt ∙ ap (λ (x : Text). x ∷ drop (i + 1) xs) (sym same) in
    h ∙ rw (left, is) (shift done t (idents_of (drop (i + 1) xs)))

pub ident_none : (done : List Text) (all : Option (List Text)) (xs : List Text) (i : ℕ) (t : Text) → i < length xs → t ≡ get_or xs i t
    → all ≡ option_map (λ (ts : List Text). done ++ ts) (idents_of (drop i xs)) → is_ident t ≡ false → None ≡ all
ident_none done all xs i t lt same h is =
    let left : drop i xs ≡ t ∷ drop (i + 1) xs = drop_more xs i t lt ∙ ap (λ (x : Text). x ∷ drop (i + 1) xs) (sym same) in
    sym (h ∙ rw (left, is) refl)

pub ident_last : (done : List Text) (all : Option (List Text)) (xs : List Text) (i : ℕ) → length xs ≤ i
    → all ≡ option_map (λ (ts : List Text). done ++ ts) (idents_of (drop i xs)) → Some done ≡ all
ident_last done all xs i past h = sym (h ∙ rw (drop_all i xs past) (ap (λ (ts : List Text). Some ts) (append-nil done)))

-- ---- levels

larger-assoc : (a b c : Level) → larger (larger a b) c ≡ larger a (larger b c)
larger-assoc Nothing b c = refl
larger-assoc Write b c = refl
larger-assoc Read Nothing c = refl
larger-assoc Read Read Nothing = refl
larger-assoc Read Read Read = refl
larger-assoc Read Read Write = refl
larger-assoc Read Write c = refl

larger-none : (a : Level) → larger a Nothing ≡ a
larger-none Nothing = refl
larger-none Read = refl
larger-none Write = refl

pub said_step : (name : Text) (said whole : Level) (rs : List PackageLevel) (i : ℕ) (r : PackageLevel) → i < length rs → r ≡ get_or rs i r
    → larger said (level_said name (drop i rs)) ≡ whole → larger (larger said (level_of_row name r)) (level_said name (drop (i + 1) rs)) ≡ whole
said_step name said whole rs i r lt same h =
    let left : drop i rs ≡ r ∷ drop (i + 1) rs = drop_more rs i r lt ∙ ap (λ (x : PackageLevel). x ∷ drop (i + 1) rs) (sym same) in
    larger-assoc said (level_of_row name r) (level_said name (drop (i + 1) rs)) ∙ (rw left at h)

pub said_last : (name : Text) (said whole : Level) (rs : List PackageLevel) (i : ℕ) → length rs ≤ i
    → larger said (level_said name (drop i rs)) ≡ whole → said ≡ whole
said_last name said whole rs i past h = sym (larger-none said) ∙ (rw (drop_all i rs past) at h)

-- ---- rows that pass a test

module _ {A B : Type 0} (p : B → Bool) (f : A → B) (xs : List A) (i : ℕ) (x : A) (lt : i < length xs) (same : x ≡ get_or xs i x) where
  left : drop i xs ≡ x ∷ drop (i + 1) xs
  left = drop_more xs i x lt ∙ ap (λ (y : A). y ∷ drop (i + 1) xs) (sym same)

  pub pass_step : (done new whole : List B) (t : B) → t ≡ f x → p (f x) ≡ true → new ≡ done ++ t ∷ []
      → done ++ filter p (map f (drop i xs)) ≡ whole → new ++ filter p (map f (drop (i + 1) xs)) ≡ whole
  pass_step done new whole t made passes e h = rw (e, made) (append_assoc done (f x ∷ []) (filter p (map f (drop (i + 1) xs))) ∙ (rw (left, passes) at h))

  pub skip_step : (done whole : List B) → p (f x) ≡ false → done ++ filter p (map f (drop i xs)) ≡ whole → done ++ filter p (map f (drop (i + 1) xs)) ≡ whole
  skip_step done whole fails h = rw (left, fails) at h

pub pass_last : {A B : Type 0} (p : B → Bool) (f : A → B) (done whole : List B) (xs : List A) (i : ℕ) → length xs ≤ i → done ++ filter p (map f (drop i xs)) ≡ whole → done ≡ whole
pass_last p f done whole xs i past h = sym (append-nil done) ∙ (rw (drop_all i xs past) at h)
