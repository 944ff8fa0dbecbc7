-- The keys under `time` of a packument rise: a version begins with a digit, which is below the
-- letters that `created` and `modified` begin with.
use Rattle.std.proofs.Common.{◌≡◌, ◌<◌, ◌≤◌, ◌++◌, ℕ, true, cond, ◌==◌, List, [], ◌∷◌, length, map, Some, All, refl, ap, arith, is_lt, Less, Equal, Greater, nat_cmp}
use Rattle.std.specs.Prelude.{codes}
use Rattle.std.specs.Fmt.{decimal}
use Rattle.std.specs.FinMap.Entries.{below_all}
use Rattle.std.specs.Str.Parse.{AllDigits}
use Rattle.std.proofs.lemmas.Bool.{and_from, and_parts}
use Rattle.std.proofs.lemmas.Bool.Decides.{Decides-ltb}
use Rattle.std.proofs.lemmas.Fmt.{decimal_is_IsNumeral}
use Rattle.std.proofs.lemmas.List.Elements.{All-head, All-tail, All-weaker}
use Rattle.std.proofs.lemmas.Str.Parse.{digit_from_value}
use Rattle.registry_names.specs.Maps.{at, of, rises}
use Rattle.registry_names.specs.Texts.{Text, text_cmp}
use Rattle.registry_names.specs.Versions.{IsVersion}
use Rattle.registry_names.proofs.KeyFacts.{text_key}
use Rattle.registry_names.proofs.PartFacts.{part_found, part_rises}
use Rattle.registry_packument.specs.Heads.{time_entry}
use Rattle.registry_rules.specs.State.{Release}
use Rattle.registry_laws_history.specs.Answers.{version_time}
use Rattle.registry_laws_history.specs.PackumentMoments.{TimeKeysRise}

-- ---- what begins with a digit is below what begins with a letter

number_less : (m n : ℕ) → m < n → nat_cmp m n ≡ Less
number_less m n h = ap (λ b. cond b Less (cond (m == n) Equal Greater)) ((Decides-ltb m n).1 h)

digits_below : (ds rest cs : List ℕ) (letter : ℕ) → 58 ≤ letter → 0 < length ds → AllDigits 10 ds → is_lt (text_cmp (ds ++ rest) (letter ∷ cs)) ≡ true
digits_below [] rest cs letter high some all = absurd (omega arith)
digits_below (d ∷ ds) rest cs letter high some all =
    let digit = digit_from_value d all.0 in
    let less = number_less d letter (omega (arith, digit, high)) in
    rw less refl

version_below : (v cs : Text) (letter : ℕ) → 58 ≤ letter → IsVersion v → is_lt (text_cmp v (letter ∷ cs)) ≡ true
version_below v cs letter high is =
    let parts = is.0 in
    let numeral = decimal_is_IsNumeral parts.major (omega (arith, is.1.2)) in
    rw is.1.0 (digits_below (decimal parts.major) _ cs letter high numeral.0.0 numeral.0.1)

-- ---- the keys

-- the last two keys
abbrev package_moments : ℕ → ℕ → List (Text × ℕ)
package_moments created modified = (codes "created", created) ∷ (codes "modified", modified) ∷ []

-- the moments of live versions, and of their package
abbrev all_moments : List (Text × Release) → ℕ → ℕ → List (Text × ℕ)
all_moments es created modified = map time_entry (map version_time es) ++ package_moments created modified

below_moments : (v : Text) (es : List (Text × Release)) (created modified : ℕ) → IsVersion v → below_all text_cmp v es ≡ true → below_all text_cmp v (all_moments es created modified) ≡ true
below_moments v [] created modified is below =
    and_from _ _ (version_below v _ 99 (omega arith) is) (and_from _ _ (version_below v _ 109 (omega arith) is) refl)
below_moments v (e ∷ es) created modified is below =
    let parts = and_parts (is_lt (text_cmp v e.0)) (below_all text_cmp v es) below in
    and_from _ _ parts.0 (below_moments v es created modified is parts.1)

moments_rise : (es : List (Text × Release)) (created modified : ℕ) → All (λ (e : Text × Release). IsVersion e.0) es → rises text_cmp es ≡ true → rises text_cmp (all_moments es created modified) ≡ true
moments_rise [] created modified all rise = refl
moments_rise (e ∷ es) created modified all rise =
    let parts = and_parts (below_all text_cmp e.0 es) (rises text_cmp es) rise in
    and_from _ _ (below_moments e.0 es created modified (All-head (λ (e : Text × Release). IsVersion e.0) e es all) parts.0)
    (moments_rise es created modified (All-tail (λ (e : Text × Release). IsVersion e.0) e es all) parts.1)

pub time_keys_rise : TimeKeysRise
time_keys_rise S p kept =
    let versions : All (λ (e : Text × Release). IsVersion e.0) (of S.live p) =
    All-weaker (λ (e : Text × Release). at S.live (p, e.0) ≡ Some e.1) (λ (e : Text × Release). IsVersion e.0)
    (λ e there. let release = kept.live p e.0 e.1 there in (release.version, release.is_version)) (of S.live p) (part_found text_key S.live p) in
    moments_rise (of S.live p) _ _ versions (part_rises text_cmp S.live p)
