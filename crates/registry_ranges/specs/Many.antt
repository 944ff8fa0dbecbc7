-- Many versions at once: those of which comparators hold, and whose numbers comparators with a
-- prerelease name.
use Rattle.std.specs.Prelude.{◌≡◌, ◌⊎◌, ◌||◌, Bool, List}
use Rattle.std.specs.List.{list_any}
use Rattle.registry_names.specs.Versions.{VersionParts}
use Rattle.registry_ranges.specs.declared.many.Numbers.{Numbers}
use Rattle.registry_ranges.specs.declared.relation.Relation.{Relation}
use Rattle.registry_ranges.specs.declared.relation.Relation.TheVariants as relation
use Rattle.registry_ranges.specs.Comparators.{Comparator, has_numbers, is_near}

-- it holds of all versions below one of which it holds
abbrev pub IsToTop : Relation → Type 0
IsToTop r = (r ≡ relation.Less) ⊎ (r ≡ relation.LessEq)

-- it holds of all versions above one of which it holds
abbrev pub IsFromTop : Relation → Type 0
IsFromTop r = (r ≡ relation.Greater) ⊎ (r ≡ relation.GreaterEq)

abbrev pub with_relation : Relation → Comparator → Comparator
with_relation r c = record c { relation = r }

-- the version has some of these numbers
abbrev pub is_named : List Numbers → VersionParts → Bool
is_named near v = list_any (λ n. has_numbers v n.major n.minor n.patch) near

-- beside the numbers that were kept are those of the comparators that have a prerelease
abbrev pub KeepsNear : List Numbers → List Numbers → List Comparator → Type 0
KeepsNear old new cs = (v : VersionParts) → is_named new v ≡ (is_named old v || list_any (is_near v) cs)
