-- What a command line means.
use Rattle.std.specs.Prelude.{◌≡◌, ℕ, Bool, true, false, List, [], ◌∷◌, length, map, find, Option, None, Some, codes, option_and_then, option_map, unwrap_or, slice_get, is_some, ◌&&◌, if◌then◌else◌}
use Rattle.std.specs.Str.{bytes_eq}
use Rattle.std.specs.Str.Parse.{signed_digits_value}
use Rattle.clap.specs.ValueTests.{accepts}
use Rattle.clap.specs.Walk.{Row, Text, first_of}
use Rattle.clap.specs.Simple.{matches_of, subcommand_of}
use Rattle.registry_names.specs.Moments.{moment_of}
use Rattle.registry_cli.specs.Subcommands.{moments, registry, subcommands}
use Rattle.registry_cli.specs.declared.meaning.Who.{Who}
use Rattle.registry_cli.specs.declared.meaning.Who.TheVariants.{Operator, User, Anonymous}
use Rattle.registry_cli.specs.declared.meaning.Line.{Line}

-- ---- of what was found of the options and of the subcommand

-- the value of the argument with this name, or the empty text where there isn't one
abbrev pub value_in : List Row → Text → Text
value_in rows id = unwrap_or (first_of id rows) []

abbrev pub user_in : List Row → Option Text
user_in = first_of (codes "USER")

-- the flag of this name is there
abbrev pub has_flag : List Row → Text → Bool
has_flag rows id = bytes_eq (value_in rows id) (codes "true")

abbrev pub is_operator_in : List Row → Bool
is_operator_in rows = has_flag rows (codes "operator")

-- the file has to be there: none is made
abbrev pub is_existing_in : List Row → Bool
is_existing_in rows = has_flag rows (codes "existing")

-- both `--as` and `--operator`
abbrev pub are_both : Option Text → Bool → Bool
are_both user is_operator = is_some user && is_operator

abbrev pub are_both_in : List Row → Bool
are_both_in rows = are_both (user_in rows) (is_operator_in rows)

abbrev pub who_asks : Option Text → Bool → Who
who_asks user true = Operator
who_asks None false = Anonymous
who_asks (Some name) false = User name

abbrev pub who_in : List Row → Who
who_in rows = who_asks (user_in rows) (is_operator_in rows)

-- the moment that a text spells, which the option takes
abbrev pub moment_in : Text → Option ℕ
moment_in text = if accepts false moments text then moment_of (signed_digits_value 10 text) else None

abbrev pub at_in : List Row → Option ℕ
at_in rows = option_and_then moment_in (first_of (codes "SECONDS") rows)

-- what the arguments of a subcommand are called, in their order
abbrev pub parameters_of : Text → List Text
parameters_of name = unwrap_or (option_map (λ s. map (λ w. w.id) s.1) (find (λ s. bytes_eq s.0 name) subcommands)) []

abbrev pub is_called : Text → Bool
is_called name = is_some (find (λ s. bytes_eq s.0 name) subcommands)

-- the argument at this index, counted from 0, or the empty text where there isn't one
abbrev pub argument_at : List Text → ℕ → Text
argument_at what i = unwrap_or (slice_get what i) []

-- the subcommand asks to serve, and so for no action
abbrev pub asks_to_serve : List Text → Bool
asks_to_serve what = bytes_eq (argument_at what 0) (codes "serve")

-- the file that a publish names
abbrev pub file_of : List Text → Option Text
file_of what = if bytes_eq (argument_at what 0) (codes "publish") then Some (argument_at what 1) else None

-- the first argument stands for standard input
abbrev pub says_input : List Text → Bool
says_input what = bytes_eq (argument_at what 1) (codes "-")

-- the token that is to end is on standard input
abbrev pub reads_input : List Text → Bool
reads_input what = bytes_eq (argument_at what 0) (codes "token-rm") && says_input what

-- the name of a subcommand, and as many arguments as it has
abbrev pub IsWhole : List Text → Type 0
IsWhole [] = ⊥
IsWhole (name ∷ arguments) = (is_called name ≡ true) × (length arguments ≡ length (parameters_of name))

-- the subcommand's name and its arguments in their order, with the defaults of those that were left
-- out
abbrev pub told : Option (Text × List Row) → List Text
told None = []
told (Some found) = found.0 ∷ map (value_in found.1) (parameters_of found.0)

abbrev pub line_in : List Row → Option (Text × List Row) → Line
line_in rows found = record {
  db = value_in rows (codes "PATH");
  existing = is_existing_in rows;
  who = who_in rows;
  at = at_in rows;
  what = told found;
}

-- ---- of the arguments

abbrev pub has_both : List Text → Bool
has_both arguments = are_both_in (matches_of registry arguments)

abbrev pub line_of : List Text → Line
line_of arguments = line_in (matches_of registry arguments) (subcommand_of registry arguments)
