-- Reading range sets from the front of a text, a part at a time.
use Rattle.std.specs.Prelude.{ℕ, zero, suc, ◌+◌, ◌*◌, Bool, true, false, ◌==◌, ◌||◌, ◌&&◌, length, List, [], ◌∷◌, Option, Some, None, if◌then◌else◌}
use Rattle.std.specs.Borrow.{Bor}
use Rattle.registry_ranges.specs.declared.reader.Place.{Place}
use Rattle.registry_ranges.specs.declared.reader.Place.TheVariants.{Before, Open, Closed}
use Rattle.registry_ranges.specs.declared.reader as Code
use Rattle.registry_ranges.specs.declared.reader.Part.TheVariants as code_part
use Rattle.registry_ranges.specs.declared.reader.Step.TheVariants as code_step
use Rattle.registry_ranges.specs.declared.simple.Operator.{Operator}
use Rattle.registry_ranges.specs.declared.simple.Operator.TheVariants as op
use Rattle.registry_ranges.specs.Values.{Part, simple, hyphen, nothing, Ranges}
use Rattle.registry_ranges.specs.Prefixes.{Prefix, prefix_of, prefix_view}
use Rattle.registry_ranges.specs.Reading.{◌>>=◌, partial_at, simple_at, strip_spaces, strip_v}

-- what is read next, where the reader is after it, and the text after it
pub data Step : Type 0 where
  part : Part → Place → List ℕ → Step
  or : List ℕ → Step
  end : Step
  wrong : Step

abbrev pub second_bar : List ℕ → Step
second_bar [] = wrong
second_bar (b ∷ rest) = if b == 124 then or rest else wrong

-- what follows a range
unfoldable pub end_at : List ℕ → Step
end_at [] = end
end_at (a ∷ rest) = if a == 124 then second_bar rest else wrong

abbrev pub begins_with : ℕ → List ℕ → Bool
begins_with byte [] = false
begins_with byte (b ∷ rest) = b == byte

-- whether the text is at its end, or goes on with two bars
abbrev pub is_range_end : List ℕ → Bool
is_range_end [] = true
is_range_end (a ∷ rest) = a == 124 && begins_with 124 rest

abbrev pub high_at : List ℕ → Option (List ℕ)
high_at [] = None
high_at (b ∷ rest) = if b == 32 then Some (strip_spaces rest) else None

abbrev pub behind_spaces : List ℕ → Option (List ℕ)
behind_spaces [] = None
behind_spaces (a ∷ rest) = if a == 45 then high_at rest else None

-- the text after a hyphen with spaces on either side
unfoldable pub hyphen_at : List ℕ → Option (List ℕ)
hyphen_at xs = if length (strip_spaces xs) == length xs then None else behind_spaces (strip_spaces xs)

-- a part, where the reader is after it, and the text after it
abbrev pub PartRead : Type 0
PartRead = Option (Part × Place × List ℕ)

-- the high end of a hyphen range
abbrev pub hyphen_to : Prefix → List ℕ → PartRead
hyphen_to low high = partial_at (strip_v high) >>= λ p. Some (hyphen low (prefix_of p.0), Closed, p.1)

abbrev pub bare_or_hyphen : Prefix → List ℕ → Option (List ℕ) → PartRead
bare_or_hyphen p rest None = Some (simple op.Bare p, Open, rest)
bare_or_hyphen p rest (Some high) = hyphen_to p high

-- what a range that begins with this simple begins with
abbrev pub first_of : Operator → Prefix → List ℕ → PartRead
first_of op.Bare p rest = bare_or_hyphen p rest (hyphen_at rest)
first_of o p rest = Some (simple o p, Open, rest)

unfoldable pub first_at : List ℕ → PartRead
first_at xs = simple_at xs >>= λ s. first_of s.0.0 s.0.1 s.1

unfoldable pub more_at : List ℕ → PartRead
more_at xs = simple_at xs >>= λ s. Some (simple s.0.0 s.0.1, Open, s.1)

abbrev pub step_of : PartRead → Step
step_of None = wrong
step_of (Some p) = part p.0 p.1 p.2

-- after the spaces before a range
unfoldable pub before_at : List ℕ → Step
before_at xs = if is_range_end xs then part nothing Closed xs else step_of (first_at xs)

-- after the spaces after a simple, of which there may be none
unfoldable pub open_at : Bool → List ℕ → Step
open_at no_space xs = if no_space || is_range_end xs then end_at xs else step_of (more_at xs)

unfoldable pub step : Place → List ℕ → Step
step Before xs = before_at (strip_spaces xs)
step Open xs = open_at (length (strip_spaces xs) == length xs) (strip_spaces xs)
step Closed xs = end_at (strip_spaces xs)

abbrev pub with_part : Part → Option Ranges → Option Ranges
with_part p None = None
with_part p (Some v) = Some (p ∷ v.0, v.1)

abbrev pub with_range : Option Ranges → Option Ranges
with_range None = None
with_range (Some v) = Some ([], v.0 ∷ v.1)

-- the value from a step on, where `more` reads what follows it
abbrev pub onward : (Place → List ℕ → Option Ranges) → Step → Option Ranges
onward more (part p place rest) = with_part p (more place rest)
onward more (or rest) = with_range (more Before rest)
onward more end = Some ([], [])
onward more wrong = None

-- the value that is read within a number of steps
unfoldable pub reading_within : ℕ → Place → List ℕ → Option Ranges
reading_within zero place xs = None
reading_within (suc n) place xs = onward (reading_within n) (step place xs)

abbrev pub place_steps : Place → ℕ
place_steps Before = 1
place_steps Open = 0
place_steps Closed = 0

-- no more steps than this are taken
abbrev pub steps : Place → List ℕ → ℕ
steps place xs = 2 * length xs + place_steps place

-- the value of the rest of a range set
unfoldable pub reading : Place → List ℕ → Option Ranges
reading place xs = reading_within (suc (steps place xs)) place xs

-- the program's values, with the texts of the references

abbrev pub part_view : Code.Part.Part → Part
part_view (code_part.Simple s) = simple s.operator (prefix_view s.prefix)
part_view (code_part.Hyphen low high) = hyphen (prefix_view low) (prefix_view high)
part_view code_part.Empty = nothing

abbrev pub step_view : Code.Step.Step → Step
step_view (code_step.Part p r) = part (part_view p) r.place r.rest.now
step_view (code_step.Or rest) = or rest.now
step_view code_step.End = end
step_view code_step.Wrong = wrong

abbrev pub hyphen_view : Option (Bor (List ℕ)) → Option (List ℕ)
hyphen_view None = None
hyphen_view (Some text) = Some text.now
