-- Why the trial of a right changes nothing: it selects no version.
use Rattle.std.proofs.Common.{◌≡◌, ◌∷◌, ◌∙◌, [], false, List, Option, Some, arith, refl, sym, subst}
use Rattle.std.proofs.lemmas.Fmt.{decimal_digit}
use Rattle.registry_names.specs.Versions.{VersionParts}
use Rattle.registry_ranges.specs.Laws.{IsInForm}
use Rattle.registry_ranges.specs.Selectors.{Condition, HasConditions, compared, conditions_of, set_selects}
use Rattle.registry_ranges.specs.Values.{IsRangeOf, Ranges, simple}
use Rattle.registry_ranges.specs.Prefixes.{full}
use Rattle.registry_ranges.specs.Comparators.{below, holds}
use Rattle.registry_ranges.specs.Grammar.{simples, three}
use Rattle.registry_ranges.specs.declared.component.Component.TheVariants.{Number}
use Rattle.registry_ranges.specs.declared.simple.Operator.TheVariants.{Less}
use Rattle.registry_ranges.proofs.ReadingFacts.{unambiguous}
use Rattle.registry_ranges.proofs.BelowFacts.{numbers-decide}
use Rattle.registry_ranges.proofs.OrderFacts.{lt-none}
use Rattle.registry_npm.specs.Laws.{SelectNothing}
use Rattle.registry_npm.specs.Packages.{no_version}

-- ---- no version is selected

no_version-is_range : IsRangeOf no_version (simple Less (full 0 0 0 (48 ∷ [])) ∷ [], [])
no_version-is_range = (
  record {
    first = record { before = 0; range = simples (record { operator = Less; gap = 0; v = false; partial = three (Number 0) (Number 0) (Number 0) (48 ∷ []) [] }) []; after = 0 };
    others = [];
  },
  ((((omega arith, omega arith, omega arith, refl, refl), λ e. refl), tt), tt),
  rw (decimal_digit 0 (omega arith)) refl,
  refl,
)

none-below : (v : VersionParts) → IsInForm v → holds v (below 0 0 0) ≡ false
none-below v form = sym (numbers-decide v 0 0 0 form) ∙ lt-none v.major v.minor v.patch

abbrev one-below : List (List Condition)
one-below = (compared (below 0 0 0) ∷ []) ∷ []

pub selects-nothing : (conditions : List (List Condition)) → HasConditions no_version conditions → SelectNothing conditions
selects-nothing conditions (r, is, same) v form =
    let whole : r ≡ (simple Less (full 0 0 0 (48 ∷ [])) ∷ [], []) = unambiguous no_version r _ is no_version-is_range in
    let known : ◌≡◌ {A = Option (List (List Condition))} (Some one-below) (Some conditions) = subst (λ (x : Ranges). conditions_of x ≡ Some conditions) whole same in
    let named : one-below ≡ conditions = cc in
    let none : set_selects v one-below ≡ false = rw (none-below v form) refl in
    subst (λ (x : List (List Condition)). set_selects v x ≡ false) named none
