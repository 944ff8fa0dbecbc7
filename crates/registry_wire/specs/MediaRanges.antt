-- What the value of `accept` says of the type of an abbreviated document (RFC 9110, 12.5.1).
use Rattle.std.specs.Prelude.{ℕ, ◌==◌, ◌&&◌, ◌||◌, not, Bool, false, List, [], ◌∷◌, codes}
use Rattle.std.specs.List.{list_any, slice_split}
use Rattle.httparse.specs.Grammar.{trim_ows}
use Rattle.registry_wire.specs.EntityTags.{comma, quote}
use Rattle.registry_wire.specs.Fields.{is_same}
use Rattle.registry_wire.specs.declared.wanted.FieldValue.{FieldValue}
use Rattle.registry_wire.specs.declared.wanted.FieldValue.TheVariants.{Absent, Once, Repeated}

-- the type of a document that has what an install reads
abbrev pub abbreviated_type : List ℕ
abbreviated_type = codes "application/vnd.npm.install-v1+json"

abbrev pub semicolon : ℕ
semicolon = 59

-- the list's elements stand between commas (5.6.1), an element's parts between semicolons (5.6.6)
abbrev pub elements : List ℕ → List (List ℕ)
elements value = slice_split (λ b. b == comma) value

abbrev pub parts : List ℕ → List (List ℕ)
parts element = slice_split (λ b. b == semicolon) element

abbrev pub is_of_range : ℕ → Bool
is_of_range b = not (b == semicolon)

-- the media range is this type, in any case of its letters (8.3.1)
abbrev pub is_abbreviated : List ℕ → Bool
is_abbreviated range = is_same (trim_ows range) abbreviated_type

-- The weight 0, by which what has it isn't acceptable (12.4.2): weight = OWS ";" OWS "q=" qvalue, and
-- qvalue = ( "0" [ "." 0*3DIGIT ] ) / ( "1" [ "." 0*3("0") ] )
abbrev pub is_zero : List ℕ → Bool
is_zero weight =
    is_same weight (codes "q=0") || (is_same weight (codes "q=0.") || (is_same weight (codes "q=0.0") ||
    (is_same weight (codes "q=0.00") || is_same weight (codes "q=0.000"))))

abbrev pub is_refusal : List ℕ → Bool
is_refusal parameter = is_zero (trim_ows parameter)

-- the first part of an element is its media range, and the others are its parameters
abbrev pub accepted_by : List (List ℕ) → Bool
accepted_by [] = false
accepted_by (range ∷ parameters) = is_abbreviated range && not (list_any is_refusal parameters)

abbrev pub is_accepted : List ℕ → Bool
is_accepted element = accepted_by (parts element)

-- a value with a quoted string names nothing, as commas and semicolons may stand in one
abbrev pub accepts : List ℕ → Bool
accepts value = not (list_any (λ b. b == quote) value) && list_any is_accepted (elements value)

-- The fields of a request name the type, and don't refuse it. Several fields of this name count as
-- none, and where there is none nothing is named. The full document is always right, since who gives it
-- may disregard the field.
abbrev pub accepts_abbreviated : FieldValue → Bool
accepts_abbreviated Absent = false
accepts_abbreviated (Once value) = accepts value
accepts_abbreviated Repeated = false
