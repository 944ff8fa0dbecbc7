-- Whether a text binds a version, decided from the front of the text.
use Rattle.std.proofs.Common.{◌≡◌, ◌==◌, ℕ, List, [], ◌∷◌, Bool, true, false, Option, Some, None, length, refl, sym, ap, ap₂, ◌∙◌, subst, inl, inr}
use Rattle.std.proofs.lemmas.List.Folds.{list_all-append, list_any-append}
use Rattle.std.specs.List.{list_all, list_any}
use Rattle.std.specs.Prelude.{◌↔◌, ◌⊎◌, ◌&&◌, ◌||◌, IsTrue, option_map, unwrap_or}
use Rattle.registry_names.specs.Versions.{VersionParts}
use Rattle.registry_ranges.specs.declared.reader.Place.{Place}
use Rattle.registry_ranges.specs.declared.reader.Place.TheVariants.{Before}
use Rattle.registry_ranges.specs.Comparators.{comparators_of, comparators_of_part, comparators_of_range, comparators_of_others, holds, is_near, set_allows, Allows}
use Rattle.registry_ranges.specs.Grammar.{IsRangeText}
use Rattle.registry_ranges.specs.Steps.{part, or, end, wrong, reading, with_part, with_range, step}
use Rattle.registry_ranges.specs.Texts.{binds, ranges_in}
use Rattle.registry_ranges.specs.Values.{Part, Ranges}
use Rattle.registry_ranges.proofs.RangeTextFacts.{is_read, range-read}
use Rattle.registry_ranges.proofs.ReadingFacts.{reading-sound, reading-step}
use Rattle.registry_ranges.proofs.SpellingFacts.{value-allows}

-- a range allows the version, where of its comparators all hold or not, and one is near or not
abbrev pub allows_with : VersionParts → Bool → Bool → Bool
allows_with v all near = all && (length v.pre == 0 || near)

-- what is left binds the version, where these comparators of its first range were read before
abbrev pub binds_with : VersionParts → Bool → Bool → Option Ranges → Bool
binds_with v all near None = true
binds_with v all near (Some r) =
    allows_with v (all && list_all (holds v) (comparators_of_range r.0)) (near || list_any (is_near v) (comparators_of_range r.0))
    || set_allows v (comparators_of_others r.1)

and_assoc : (x y z : Bool) → (x && (y && z)) ≡ ((x && y) && z)
and_assoc true y z = refl
and_assoc false y z = refl

or_assoc : (x y z : Bool) → (x || (y || z)) ≡ ((x || y) || z)
or_assoc true y z = refl
or_assoc false y z = refl

pub and_true : (x : Bool) → (x && true) ≡ x
and_true true = refl
and_true false = refl

pub or_false : (x : Bool) → (x || false) ≡ x
or_false true = refl
or_false false = refl

pub ruleset ends_of_tests = (and_true, or_false)

-- a range that ends allows what its comparators do
allows-whole : (v : VersionParts) (all near : Bool) → allows_with v (all && true) (near || false) ≡ allows_with v all near
allows-whole v all near = ap₂ (λ (a n : Bool). allows_with v a n) (and_true all) (or_false near)

bind-part : (v : VersionParts) (all near : Bool) (p : Part) (o : Option Ranges)
    → binds_with v all near (with_part p o) ≡ binds_with v (all && list_all (holds v) (comparators_of_part p)) (near || list_any (is_near v) (comparators_of_part p)) o
bind-part v all near p None = refl
bind-part v all near p (Some r) =
    let cs = comparators_of_part p in
    let ds = comparators_of_range r.0 in
    ap₂ (λ (a n : Bool). allows_with v a n || set_allows v (comparators_of_others r.1))
    (ap (λ (b : Bool). all && b) (list_all-append (holds v) cs ds) ∙ and_assoc all (list_all (holds v) cs) (list_all (holds v) ds))
    (ap (λ (b : Bool). near || b) (list_any-append (is_near v) cs ds) ∙ or_assoc near (list_any (is_near v) cs) (list_any (is_near v) ds))

bind-allowed : (v : VersionParts) (all near : Bool) (o : Option Ranges) → allows_with v all near ≡ true → binds_with v all near (with_range o) ≡ true
bind-allowed v all near None h = refl
bind-allowed v all near (Some r) h = ap (λ (b : Bool). b || set_allows v (comparators_of_others (r.0 ∷ r.1))) (allows-whole v all near ∙ h)

bind-missed : (v : VersionParts) (all near : Bool) (o : Option Ranges) → allows_with v all near ≡ false → binds_with v all near (with_range o) ≡ binds_with v true false o
bind-missed v all near None h = refl
bind-missed v all near (Some r) h = ap (λ (b : Bool). b || set_allows v (comparators_of_others (r.0 ∷ r.1))) (allows-whole v all near ∙ h)

bind-end : (v : VersionParts) (all near : Bool) → binds_with v all near (Some ([], [])) ≡ allows_with v all near
bind-end v all near = or_false (allows_with v (all && true) (near || false)) ∙ allows-whole v all near

-- ---- what each step says

pub binds-part : (v : VersionParts) (all near then_all then_near : Bool) (place then : Place) (xs rest : List ℕ) (p : Part)
    → part p then rest ≡ step place xs → then_all ≡ (all && list_all (holds v) (comparators_of_part p)) → then_near ≡ (near || list_any (is_near v) (comparators_of_part p))
    → binds_with v all near (reading place xs) ≡ binds_with v then_all then_near (reading then rest)
binds-part v all near then_all then_near place then xs rest p e a n = rw (reading-step place xs, ← e, a, n) (bind-part v all near p (reading then rest))

pub binds-allowed : (v : VersionParts) (all near : Bool) (place : Place) (xs rest : List ℕ)
    → or rest ≡ step place xs → allows_with v all near ≡ true → binds_with v all near (reading place xs) ≡ true
binds-allowed v all near place xs rest e h = rw (reading-step place xs, ← e) (bind-allowed v all near (reading Before rest) h)

pub binds-or : (v : VersionParts) (all near then_all then_near : Bool) (place then : Place) (xs rest next : List ℕ)
    → or rest ≡ step place xs → allows_with v all near ≡ false → then_all ≡ true → then_near ≡ false → then ≡ Before → next ≡ rest
    → binds_with v all near (reading place xs) ≡ binds_with v then_all then_near (reading then next)
binds-or v all near then_all then_near place then xs rest next e h a n p r =
    rw (reading-step place xs, ← e, a, n, p, r) (bind-missed v all near (reading Before rest) h)

pub binds-end : (v : VersionParts) (all near : Bool) (place : Place) (xs : List ℕ) → end ≡ step place xs → binds_with v all near (reading place xs) ≡ allows_with v all near
binds-end v all near place xs e = rw (reading-step place xs, ← e) (bind-end v all near)

pub binds-wrong : (v : VersionParts) (all near : Bool) (place : Place) (xs : List ℕ) → wrong ≡ step place xs → binds_with v all near (reading place xs) ≡ true
binds-wrong v all near place xs e = rw (reading-step place xs, ← e) refl

-- before the text nothing was read
bind-all : (v : VersionParts) (o : Option Ranges) → unwrap_or (option_map (λ r. set_allows v (comparators_of r)) o) true ≡ binds_with v true false o
bind-all v None = refl
bind-all v (Some r) = refl

pub binds-start : (text : List ℕ) (v : VersionParts) → binds text v ≡ binds_with v true false (reading Before text)
unfolding ranges_in
binds-start text v = bind-all v (reading Before text)

-- ---- what that means

binding-means : (text : List ℕ) (v : VersionParts) (o : Option Ranges) → reading Before text ≡ o
    → IsTrue (unwrap_or (option_map (λ r. set_allows v (comparators_of r)) o) true) ↔ ((¬ IsRangeText text) ⊎ Allows text v)
binding-means text v None e =
    let unread : IsRangeText text → ⊥ = λ t. let read : is_read None ≡ true = ap is_read (sym e) ∙ range-read text t in cc read in
    (λ h. inl unread, λ h. refl)
binding-means text v (Some r) e =
    let value = reading-sound text r e in
    let allows = value-allows text r v value in
    (λ h. inr (allows.1 h), λ h. elim h [ inl none ↦ absurd (none (value.0, value.1, value.2)) | inr a ↦ allows.0 a ])

-- the answer that `binds` is
pub answer-means : (text : List ℕ) (v : VersionParts) (is : Bool) → is ≡ binds text v → IsTrue is ↔ ((¬ IsRangeText text) ⊎ Allows text v)
unfolding ranges_in
answer-means text v is e = subst (λ (b : Bool). IsTrue b ↔ ((¬ IsRangeText text) ⊎ Allows text v)) (sym e) (binding-means text v (reading Before text) refl)

pub ruleset binding = (binds-start)
