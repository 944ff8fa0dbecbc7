-- Selectors: the versions that a deprecation is about. Prereleases are selected as other versions
-- are.
use Rattle.std.specs.Prelude.{◌≡◌, ◌↔◌, IsTrue, ℕ, Bool, true, ◌==◌, ◌&&◌, List, [], ◌∷◌, Option, Some, None}
use Rattle.std.specs.List.{list_all, list_any}
use Rattle.registry_names.specs.Versions.{VersionParts}
use Rattle.registry_ranges.specs.declared.simple.Operator.{Operator}
use Rattle.registry_ranges.specs.declared.simple.Operator.TheVariants.{Bare, Less, Greater, LessEq, GreaterEq, Equal, Tilde, TildeGreater, Caret}
use Rattle.registry_ranges.specs.declared.relation.Relation.{Relation}
use Rattle.registry_ranges.specs.declared.relation.Relation.TheVariants as relation
use Rattle.registry_ranges.specs.Comparators.{Comparator, comparator, holds}
use Rattle.registry_ranges.specs.Values.{Part, simple, hyphen, nothing, Ranges, IsRangeOf}
use Rattle.registry_ranges.specs.Prefixes.{Prefix, any, major, minor, full}
use Rattle.registry_ranges.specs.Reading.{◌>>=◌}

-- what a simple of a selector asks of a version: nothing, its first numbers, or a relation to a
-- version
pub data Condition : Type 0 where
  all : Condition
  has_major : ℕ → Condition
  has_minor : ℕ → ℕ → Condition
  compared : Comparator → Condition

-- a prefix with no operator: the version agrees with it
abbrev pub agreement : Prefix → Condition
agreement any = all
agreement (major a) = has_major a
agreement (minor a b) = has_minor a b
agreement (full a b c pre) = compared (comparator relation.Equal a b c pre)

-- a relation comes before three numbers alone
abbrev pub comparison : Relation → Prefix → Option Condition
comparison r (full a b c pre) = Some (compared (comparator r a b c pre))
comparison r any = None
comparison r (major a) = None
comparison r (minor a b) = None

abbrev pub condition_of_simple : Operator → Prefix → Option Condition
condition_of_simple Bare p = Some (agreement p)
condition_of_simple Less p = comparison relation.Less p
condition_of_simple Greater p = comparison relation.Greater p
condition_of_simple LessEq p = comparison relation.LessEq p
condition_of_simple GreaterEq p = comparison relation.GreaterEq p
condition_of_simple Equal p = comparison relation.Equal p
condition_of_simple Tilde p = None
condition_of_simple TildeGreater p = None
condition_of_simple Caret p = None

-- the condition of a part, if a selector may have it
abbrev pub condition_of : Part → Option Condition
condition_of nothing = Some all
condition_of (hyphen low high) = None
condition_of (simple o p) = condition_of_simple o p

-- the conditions of a range, if a selector may have each of its parts
abbrev pub conditions_of_range : List Part → Option (List Condition)
conditions_of_range [] = Some []
conditions_of_range (p ∷ rest) = condition_of p >>= λ c. conditions_of_range rest >>= λ cs. Some (c ∷ cs)

abbrev pub conditions_of_others : List (List Part) → Option (List (List Condition))
conditions_of_others [] = Some []
conditions_of_others (r ∷ rest) = conditions_of_range r >>= λ c. conditions_of_others rest >>= λ cs. Some (c ∷ cs)

-- the conditions of each range of a set
abbrev pub conditions_of : Ranges → Option (List (List Condition))
conditions_of r = conditions_of_range r.0 >>= λ c. conditions_of_others r.1 >>= λ cs. Some (c ∷ cs)

-- a version meets a condition
abbrev pub meets_condition : VersionParts → Condition → Bool
meets_condition v all = true
meets_condition v (has_major a) = v.major == a
meets_condition v (has_minor a b) = (v.major == a) && (v.minor == b)
meets_condition v (compared c) = holds v c

-- a range selects what meets all its conditions, and a set what one of its ranges selects
abbrev pub set_selects : VersionParts → List (List Condition) → Bool
set_selects v ranges = list_any (list_all (meets_condition v)) ranges

-- the text is a selector, and these are its conditions
abbrev pub HasConditions : List ℕ → List (List Condition) → Type 0
HasConditions text ranges = (r : Ranges) × IsRangeOf text r × (conditions_of r ≡ Some ranges)

-- the text is a selector
abbrev pub IsSelector : List ℕ → Type 0
IsSelector text = (ranges : List (List Condition)) × HasConditions text ranges

-- the text is a selector that selects the version
abbrev pub Selects : List ℕ → VersionParts → Type 0
Selects text v = (ranges : List (List Condition)) × HasConditions text ranges × (set_selects v ranges ≡ true)

-- the conditions select what the text does
abbrev pub SelectsAs : List ℕ → List (List Condition) → Type 0
SelectsAs text ranges = (v : VersionParts) → IsTrue (set_selects v ranges) ↔ Selects text v
