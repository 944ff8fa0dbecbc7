-- The ranges that a text is, as a function of it: what the grammar's relation gives.
use Rattle.std.specs.Prelude.{◌≡◌, ◌↔◌, ℕ, Bool, List, true, Option, Some, unwrap_or, option_map}
use Rattle.registry_names.specs.Versions.{VersionParts}
use Rattle.registry_ranges.specs.declared.reader.Place.TheVariants.{Before}
use Rattle.registry_ranges.specs.Comparators.{comparators_of, set_allows}
use Rattle.registry_ranges.specs.Steps.{reading}
use Rattle.registry_ranges.specs.Values.{Ranges, IsRangeOf}

-- what the text says, if it is a range set
unfoldable pub ranges_in : List ℕ → Option Ranges
ranges_in text = reading Before text

-- the text isn't a range, or is one that allows the version
abbrev pub binds : List ℕ → VersionParts → Bool
binds text v = unwrap_or (option_map (λ r. set_allows v (comparators_of r)) (ranges_in text)) true

-- it is exactly what the grammar says
abbrev pub TextsAreRead : Type 0
TextsAreRead = (text : List ℕ) (r : Ranges) → (ranges_in text ≡ Some r) ↔ IsRangeOf text r
