-- Reading partial versions and simples from the front of a text: what is read, and the text after
-- it.
use Rattle.std.specs.Prelude.{ℕ, Bool, ◌==◌, ◌||◌, ◌&&◌, nat_le, nat_lt, length, drop, take_while, List, [], ◌∷◌, Option, Some, None, Result, Ok, Err, if◌then◌else◌}
use Rattle.std.specs.Borrow.{Bor}
use Rattle.semver.specs.Grammar.{is_identifier_byte, is_pre_release, is_build}
use Rattle.semver.specs.Parse.{numeric, digits_end}
use Rattle.semver.specs.declared.error.Error.{Error}
use Rattle.registry_names.specs.Versions.{greatest_number}
use Rattle.semver.specs.declared.error.Position.TheVariants as place
use Rattle.registry_ranges.specs.declared.component.Component.{Component}
use Rattle.registry_ranges.specs.declared.component.Component.TheVariants.{Wildcard, Number}
use Rattle.registry_ranges.specs.declared.partial as CodePartial
use Rattle.registry_ranges.specs.declared.simple as CodeSimple
use Rattle.registry_ranges.specs.declared.simple.Operator.{Operator}
use Rattle.registry_ranges.specs.declared.simple.Operator.TheVariants as op
use Rattle.registry_ranges.specs.declared.partial.Partial.TheVariants as code
use Rattle.registry_ranges.specs.Grammar.{Partial, one, two, three, is_wildcard}
use Rattle.registry_ranges.specs.Prefixes.{Prefix, prefix_of, prefix_view}

-- what was read, and the text after it
abbrev pub Read : Type 0 → Type 0
Read A = Option (A × List ℕ)

infixl 10 ◌>>=◌
abbrev pub ◌>>=◌ : {A B : Type 0} → Option A → (A → Option B) → Option B
Some x >>= f = f x
None >>= f = None

abbrev pub answered : {A : Type 0} → Result A Error → Option A
answered (Ok x) = Some x
answered (Err e) = None

-- a number of at most the limit, with no leading zero
abbrev pub within_limit : Option (ℕ × List ℕ) → Read ℕ
within_limit None = None
within_limit (Some p) = if nat_le p.0 greatest_number then Some p else None

-- the number of these digits, and the text after them
abbrev pub number_to : List ℕ → ℕ → ℕ → Read ℕ
number_to xs len value = within_limit (answered (digits_end place.Major value len (drop len xs)))

unfoldable pub number_at : List ℕ → Read ℕ
number_at xs = within_limit (answered (numeric place.Major xs))

abbrev pub as_number : Option (ℕ × List ℕ) → Read Component
as_number None = None
as_number (Some p) = Some (Number p.0, p.1)

unfoldable pub component_at : List ℕ → Read Component
component_at [] = None
component_at (b ∷ rest) = if is_wildcard b then Some (Wildcard b, rest) else as_number (number_at (b ∷ rest))

-- a byte of parts with dots between them
abbrev pub is_run_byte : ℕ → Bool
is_run_byte b = is_identifier_byte b || b == 46

-- the bytes of parts with dots between them that are at the front, and the text after them
abbrev pub run_of : List ℕ → List ℕ
run_of xs = take_while is_run_byte xs

-- a text that isn't empty and passes the test
abbrev pub chosen : (List ℕ → Bool) → List ℕ → List ℕ → Read (List ℕ)
chosen test run rest = if nat_lt 0 (length run) && test run then Some (run, rest) else None

-- such a text after its mark, or nothing
unfoldable pub marked_at : ℕ → (List ℕ → Bool) → List ℕ → Read (List ℕ)
marked_at mark test [] = Some ([], [])
marked_at mark test (b ∷ rest) = if b == mark then chosen test (run_of rest) (drop (length (run_of rest)) rest) else Some ([], b ∷ rest)

abbrev pub pre_at : List ℕ → Read (List ℕ)
pre_at xs = marked_at 45 is_pre_release xs

abbrev pub build_at : List ℕ → Read (List ℕ)
build_at xs = marked_at 43 is_build xs

unfoldable pub third_at : Component → Component → List ℕ → Read Partial
third_at a b xs = do
  c ← component_at xs
  pre ← pre_at c.1
  build ← build_at pre.1
  Some (three a b c.0 pre.0 build.0, build.1)

unfoldable pub after_second : Component → Component → List ℕ → Read Partial
after_second a b [] = Some (two a b, [])
after_second a b (d ∷ rest) = if d == 46 then third_at a b rest else Some (two a b, d ∷ rest)

unfoldable pub after_first : Component → List ℕ → Read Partial
after_first a [] = Some (one a, [])
after_first a (d ∷ rest) = if d == 46 then (component_at rest >>= λ b. after_second a b.0 b.1) else Some (one a, d ∷ rest)

unfoldable pub partial_at : List ℕ → Read Partial
partial_at xs = component_at xs >>= λ a. after_first a.0 a.1

-- what a function read, with the text of the reference
abbrev pub read_view : {A : Type 0} → Option (A × Bor (List ℕ)) → Read A
read_view None = None
read_view (Some p) = Some (p.0, p.1.now)

abbrev pub pair_view : Option (Bor (List ℕ) × Bor (List ℕ)) → Read (List ℕ)
pair_view None = None
pair_view (Some p) = Some (p.0.now, p.1.now)

-- a partial, with the texts of the references
abbrev pub partial_view : CodePartial.Partial.Partial → Partial
partial_view (code.One a) = one a
partial_view (code.Two a b) = two a b
partial_view (code.Three a b c pre build) = three a b c pre.now build.now

abbrev pub partial_read : Option (CodePartial.Partial.Partial × Bor (List ℕ)) → Read Partial
partial_read None = None
partial_read (Some p) = Some (partial_view p.0, p.1.now)

abbrev pub after_less : List ℕ → Operator × List ℕ
after_less [] = (op.Less, [])
after_less (b ∷ rest) = if b == 61 then (op.LessEq, rest) else (op.Less, b ∷ rest)

abbrev pub after_greater : List ℕ → Operator × List ℕ
after_greater [] = (op.Greater, [])
after_greater (b ∷ rest) = if b == 61 then (op.GreaterEq, rest) else (op.Greater, b ∷ rest)

abbrev pub after_tilde : List ℕ → Operator × List ℕ
after_tilde [] = (op.Tilde, [])
after_tilde (b ∷ rest) = if b == 62 then (op.TildeGreater, rest) else (op.Tilde, b ∷ rest)

-- the operator at the front of a text, and the text after it
unfoldable pub operator_at : List ℕ → Operator × List ℕ
operator_at [] = (op.Bare, [])
operator_at (b ∷ rest) =
    if b == 60 then after_less rest
    else if b == 62 then after_greater rest
    else if b == 61 then (op.Equal, rest)
    else if b == 126 then after_tilde rest
    else if b == 94 then (op.Caret, rest)
    else (op.Bare, b ∷ rest)

abbrev pub is_space : ℕ → Bool
is_space b = b == 32

-- the text after the spaces at its front
abbrev pub strip_spaces : List ℕ → List ℕ
strip_spaces xs = drop (length (take_while is_space xs)) xs

-- the text after an operator's spaces
abbrev pub after_operator : Operator × List ℕ → List ℕ
after_operator (op.Bare, rest) = rest
after_operator (_, rest) = strip_spaces rest

-- the text after a v
unfoldable pub strip_v : List ℕ → List ℕ
strip_v [] = []
strip_v (b ∷ rest) = if b == 118 then rest else b ∷ rest

unfoldable pub simple_at : List ℕ → Read (Operator × Prefix)
simple_at xs = partial_at (strip_v (after_operator (operator_at xs))) >>= λ p. Some (((operator_at xs).0, prefix_of p.0), p.1)

abbrev pub operator_view : Operator × Bor (List ℕ) → Operator × List ℕ
operator_view o = (o.0, o.1.now)

abbrev pub simple_read : Option (CodeSimple.Simple.Simple × Bor (List ℕ)) → Read (Operator × Prefix)
simple_read None = None
simple_read (Some s) = Some ((s.0.operator, prefix_view s.0.prefix), s.1.now)
