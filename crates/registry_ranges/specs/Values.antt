-- What range sets say: their trees without spaces, and without what is ignored.
use Rattle.std.specs.Prelude.{◌≡◌, ℕ, List, [], ◌∷◌}
use Rattle.registry_ranges.specs.declared.simple.Operator.{Operator}
use Rattle.registry_ranges.specs.Grammar.{Simple, Range, empty, between, simples, Spaced, RangeSet, IsSet, print_set}
use Rattle.registry_ranges.specs.Prefixes.{Prefix, prefix_of}

-- a simple, a hyphen range by its two ends, or the empty range
pub data Part : Type 0 where
  simple : Operator → Prefix → Part
  hyphen : Prefix → Prefix → Part
  nothing : Part

abbrev pub part_of : Simple → Part
part_of s = simple s.operator (prefix_of s.partial)

abbrev pub parts_of_more : List (ℕ × Simple) → List Part
parts_of_more [] = []
parts_of_more ((gap, s) ∷ rest) = part_of s ∷ parts_of_more rest

abbrev pub parts_of_range : Range → List Part
parts_of_range empty = nothing ∷ []
parts_of_range (between h) = hyphen (prefix_of h.low) (prefix_of h.high) ∷ []
parts_of_range (simples first more) = part_of first ∷ parts_of_more more

abbrev pub parts_of_others : List Spaced → List (List Part)
parts_of_others [] = []
parts_of_others (s ∷ rest) = parts_of_range s.range ∷ parts_of_others rest

-- the value of a range set: the parts of its first range, and of each other
abbrev pub Ranges : Type 0
Ranges = List Part × List (List Part)

abbrev pub parts_of : RangeSet → Ranges
parts_of t = (parts_of_range t.first.range, parts_of_others t.others)

-- the text is a range set of this value
abbrev pub IsRangeOf : List ℕ → Ranges → Type 0
IsRangeOf text ranges = (t : RangeSet) × IsSet t × (text ≡ print_set t) × (ranges ≡ parts_of t)

-- A text has at most one value.
abbrev pub IsUnambiguous : List ℕ → Type 0
IsUnambiguous text = (a b : Ranges) → IsRangeOf text a → IsRangeOf text b → a ≡ b
