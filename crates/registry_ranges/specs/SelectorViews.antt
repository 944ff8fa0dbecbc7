-- What a selector's text asks of a version, as the definitions see it.
use Rattle.std.specs.Prelude.{◌≡◌, ◌≤◌, ℕ, List, [], true, Option, Some, None, unwrap_or}
use Rattle.registry_names.specs.Versions.{greatest_number}
use Rattle.registry_ranges.specs.declared.condition as Code
use Rattle.registry_ranges.specs.declared.condition.Question.TheVariants as code_question
use Rattle.registry_ranges.specs.declared.reader.Place.TheVariants.{Before}
use Rattle.registry_ranges.specs.Bounds.{bound_view, has_pre}
use Rattle.registry_ranges.specs.Reading.{◌>>=◌}
use Rattle.registry_ranges.specs.Selectors.{Condition, all, has_major, has_minor, compared, conditions_of}
use Rattle.registry_ranges.specs.Steps.{reading}

-- a condition whose prerelease is in the text
abbrev pub question_view : Code.Question.Question → Condition
question_view code_question.All = all
question_view (code_question.Major a) = has_major a
question_view (code_question.Minor a b) = has_minor a b
question_view (code_question.Compared b) = compared (bound_view b)

abbrev pub asked_view : Option Code.Question.Question → Option Condition
asked_view None = None
asked_view (Some q) = Some (question_view q)

-- its numbers are in bounds, and its prerelease is one or the empty text
abbrev pub IsAsked : Condition → Type 0
IsAsked all = Unit {0}
IsAsked (has_major a) = a ≤ greatest_number
IsAsked (has_minor a b) = b ≤ greatest_number
IsAsked (compared c) = has_pre c ≡ true

-- the conditions of a text that is a selector
abbrev pub conditions_read : List ℕ → List (List Condition)
conditions_read text = unwrap_or (reading Before text >>= conditions_of) []
