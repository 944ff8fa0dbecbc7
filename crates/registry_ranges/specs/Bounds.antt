-- The program's comparators, as the definitions see them.
use Rattle.std.specs.Prelude.{Bool, List, [], ◌∷◌, Option, Some, None}
use Rattle.semver.specs.Grammar.{is_pre_release}
use Rattle.registry_names.specs.Versions.{version_parts}
use Rattle.registry_ranges.specs.declared.bound.Bound.{Bound}
use Rattle.registry_ranges.specs.declared.comparator as Code
use Rattle.registry_ranges.specs.declared.comparator.Comparator.TheVariants as kept
use Rattle.registry_ranges.specs.Comparators.{Comparator, comparator, below}
use Rattle.registry_ranges.specs.Prefixes.{IsPrefix}
use Rattle.registry_ranges.specs.Values.{Part, simple, hyphen, nothing}

-- a comparator whose prerelease is in the text
abbrev pub bound_view : Bound → Comparator
bound_view b = record { relation = b.relation; bound = record { major = b.major; minor = b.minor; patch = b.patch; pre = b.pre.now } }

abbrev pub second_view : Option Bound → List Comparator
second_view None = []
second_view (Some b) = bound_view b ∷ []

-- one comparator or two
abbrev pub bounds_view : Bound × Option Bound → List Comparator
bounds_view b = bound_view b.0 ∷ second_view b.1

-- a comparator that was kept
abbrev pub comparator_view : Code.Comparator.Comparator → Comparator
comparator_view (kept.Below a b c) = below a b c
comparator_view (kept.Release r a b c) = comparator r a b c []
comparator_view (kept.Version r v) = record { relation = r; bound = version_parts v.value }

-- its prerelease is one or the empty text
abbrev pub has_pre : Comparator → Bool
has_pre c = is_pre_release c.bound.pre

-- a part whose numbers are in bounds, and whose prereleases are of the grammar
abbrev pub IsPart : Part → Type 0
IsPart nothing = Unit {0}
IsPart (hyphen low high) = IsPrefix low × IsPrefix high
IsPart (simple o p) = IsPrefix p
