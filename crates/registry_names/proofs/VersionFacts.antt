-- A text is a version exactly where `semver` reads it and what it reads is in the profile.
use Rattle.std.proofs.Common.{◌≡◌, ℕ, ◌≤◌, ◌&&◌, ◌==◌, Bool, true, false, Ok, Err, List, [], ◌∷◌, length, refl, sym, ap, ◌∙◌, arith, true≢false}
use Rattle.std.proofs.lemmas.Bool.{le-leb, leb-true, eqb-true}
use Rattle.semver.specs.Grammar.{IsValid}
use Rattle.semver.specs.Parse.{Parts, version_parts}
use Rattle.semver.specs.declared.error.Error.{Error}
use Rattle.semver.proofs.Grammar.{version_parts-sound, version_parts-complete}
use Rattle.registry_names.specs.VersionReading.{in_profile}
use Rattle.registry_names.specs.Versions.{VersionParts, IsVersion, IsVersionOf, greatest_number}
use Rattle.registry_names.proofs.NameFacts.{and_left, and_right}

both : {a b : Bool} → a ≡ true → b ≡ true → (a && b) ≡ true
both e f = rw (e, f) refl

reads : (t : List ℕ) (v : VersionParts) → IsVersionOf t v → version_parts t ≡ Ok (v.major, v.minor, v.patch, v.pre, [])
reads t v i =
    let p : Parts = (v.major, v.minor, v.patch, v.pre, []) in
    let valid : IsValid p = (omega arith, omega arith, omega arith, i.5, refl) in
    rw i.0 (version_parts-complete p valid)

pub not_read : (t : List ℕ) (e : Error) → version_parts t ≡ Err e → ¬ (IsVersion t)
not_read t e h (v, i) = cc (reads t v i)

pub not_kept : (t : List ℕ) (p : Parts) → version_parts t ≡ Ok p → in_profile p ≡ false → ¬ (IsVersion t)
not_kept t p h out (v, i) =
    let same : p ≡ (v.major, v.minor, v.patch, v.pre, []) = cc (reads t v i) in
    let yes : in_profile (v.major, v.minor, v.patch, v.pre, []) ≡ true =
    both (both (both (le-leb v.major greatest_number i.2) (le-leb v.minor greatest_number i.3)) (le-leb v.patch greatest_number i.4)) refl in
    true≢false (sym yes ∙ (sym (ap in_profile same) ∙ out))

none_left : (l : List ℕ) → (length l == 0) ≡ true → l ≡ []
none_left [] h = refl
none_left (x ∷ l) h = let e : length (x ∷ l) ≡ 0 = eqb-true _ _ h in absurd (omega (arith, e))

pub kept : (t : List ℕ) (p : Parts) → version_parts t ≡ Ok p → in_profile p ≡ true → length t ≤ 256
    → IsVersionOf t (record { major = p.0; minor = p.1; patch = p.2; pre = p.3 })
kept t p h fits short =
    let s = version_parts-sound t p h in
    let e : p.4 ≡ [] = none_left p.4 (and_right _ _ fits) in
    let f = and_left _ _ fits in
    let g = and_left _ _ f in
    (sym (rw e at s.0), short, leb-true _ _ (and_left _ _ g), leb-true _ _ (and_right _ _ g), leb-true _ _ (and_right _ _ f), s.1.3)

pub no_build : (t : List ℕ) (p : Parts) → version_parts t ≡ Ok p → in_profile p ≡ true → p.4 ≡ []
no_build t p h fits = none_left p.4 (and_right _ _ fits)
