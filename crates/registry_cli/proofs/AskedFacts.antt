-- What a server is asked by the arguments of a token is the line that adds it.
use Rattle.std.proofs.Common.{◌≡◌, ◌∙◌, ◌≤◌, ◌==◌, ℕ, ℤ, Bool, true, false, List, Option, None, Some, ap, arith, codes, drop, refl, subst, sym}
use Rattle.std.specs.Prelude.{FitsSigned, IfSome, decimal, pos, slice_index, if◌then◌else◌, ◌≤ℤ◌}
use Rattle.std.specs.Int.{IsInRange, w64}
use Rattle.std.specs.Str.Parse.{IsNumeral, digits_value, signed_digits_value, starts_with_minus, without_leading_sign}
use Rattle.std.proofs.lemmas.Bool.{cond-false, le-leb, ne_eqb}
use Rattle.std.proofs.lemmas.Fmt.{decimal_is_IsNumeral}
use Rattle.std.proofs.lemmas.Int.{ints}
use Rattle.std.proofs.lemmas.Str.Parse.{not_in_digits, numerals_by_value, tells_digits}
use Rattle.clap.specs.Takes.{walk_passes}
use Rattle.clap.specs.ValueTests.{accepts}
use Rattle.clap.specs.Walk.{Text, walked}
use Rattle.clap.proofs.ValueTestLemmas.{Accepts-accepts}
use Rattle.registry_names.specs.Moments.{last_second}
use Rattle.registry_cli.proofs.MomentFacts.{moment_read}
use Rattle.registry_cli.specs.Errands.{MeansTokenAdd, token_add_arguments, token_add_words}
use Rattle.registry_cli.specs.Lines.{moment_in}
use Rattle.registry_cli.specs.Subcommands.{moments}
use Rattle.registry_cli.specs.declared.errands.NewToken.{NewToken}
use Rattle.registry_cli.specs.declared.meaning.Line.{Line}
use Rattle.registry_cli.specs.declared.meaning.Who.{Who}
use Rattle.registry_cli.specs.declared.meaning.Who.TheVariants.{Operator, User, Anonymous}

-- ---- the digits of a moment mean it

numeral : (s : ℕ) → s ≤ last_second → IsNumeral 10 (decimal s) × (digits_value 10 (decimal s) ≡ s)
numeral s h = decimal_is_IsNumeral s (omega (arith, h))

other : (s : ℕ) → s ≤ last_second → (c : ℕ) → (IsInRange 48 57 c → ⊥) → (slice_index (decimal s) 0 == c) ≡ false
other s h c out =
    let is = numeral s h in
    ne_eqb _ c (not_in_digits (numerals_by_value _ tells_digits) (decimal s) c is.0.1 out 0 is.0.0)

unsigned : (s : ℕ) (h : s ≤ last_second) → without_leading_sign (decimal s) ≡ decimal s
unsigned s h =
    cond-false (starts_with_minus (decimal s)) _ _ (other s h 45 (λ r. omega (arith, r.0, r.1)))
    ∙ ap (λ (b : Bool). drop (if b then 1 else 0) (decimal s)) (other s h 43 (λ r. omega (arith, r.0, r.1)))

value : (s : ℕ) (h : s ≤ last_second) → signed_digits_value 10 (decimal s) ≡ pos s
value s h =
    cond-false (starts_with_minus (decimal s)) _ _ (other s h 45 (λ r. omega (arith, r.0, r.1)))
    ∙ ap (λ (t : List ℕ). pos (digits_value 10 t)) (unsigned s h) ∙ ap (λ (n : ℕ). pos n) (numeral s h).1

fits : (s : ℕ) → s ≤ last_second → FitsSigned w64 (pos s)
fits s h = record { sfits = omega (arith, h) }

accepted : (s : ℕ) → s ≤ last_second → accepts false moments (decimal s) ≡ true
accepted s h = Accepts-accepts false moments (decimal s) (
  subst (IsNumeral 10) (sym (unsigned s h)) (numeral s h).0,
  subst (FitsSigned w64) (sym (value s h)) (fits s h),
  subst (λ (z : ℤ). pos 0 ≤ℤ z) (sym (value s h)) (omega (arith, ints)),
  subst (λ (z : ℤ). z ≤ℤ pos last_second) (sym (value s h)) (omega (arith, ints, h)),
)

read : (s : ℕ) → s ≤ last_second → moment_in (decimal s) ≡ Some s
read s h =
    sym (moment_read (decimal s) (pos s) (subst (IsNumeral 10) (sym (unsigned s h)) (numeral s h).0)
    (subst (FitsSigned w64) (sym (value s h)) (fits s h)) (sym (value s h)))
    ∙ ap (λ (b : Bool). if b then Some s else None) (le-leb s last_second h)

-- ---- the words

abbrev spoken : Text → Bool → Option ℕ → Who → Text → Text → NewToken
spoken db existing at who user token = record { db = db; existing = existing; who = who; at = at; user = user }

at_no_moment : (who : Who) (e : Bool) (db user token : Text) → MeansTokenAdd (spoken db e None who user token) token (token_add_arguments (spoken db e None who user token) token)
unfolding walked walk_passes
at_no_moment Operator e db user token = record { taken = refl; one = refl; line = refl }
at_no_moment (User name) e db user token = record { taken = refl; one = refl; line = refl }
at_no_moment Anonymous e db user token = record { taken = refl; one = refl; line = refl }

-- the line, whatever its moment is
abbrev asked_at : Who → Text → Text → Option ℕ → Line
asked_at who user token at = record { db = codes "registry.db"; existing = false; who = who; at = at; what = token_add_words user token }

at_moment : (who : Who) (e : Bool) (db user token : Text) (s : ℕ) → s ≤ last_second → MeansTokenAdd (spoken db e (Some s) who user token) token (token_add_arguments (spoken db e (Some s) who user token) token)
unfolding walked walk_passes
at_moment Operator e db user token s h = record { taken = rw (accepted s h) refl; one = refl; line = ap (asked_at Operator user token) (read s h) }
at_moment (User name) e db user token s h = record { taken = rw (accepted s h) refl; one = refl; line = ap (asked_at (User name) user token) (read s h) }
at_moment Anonymous e db user token s h = record { taken = rw (accepted s h) refl; one = refl; line = ap (asked_at Anonymous user token) (read s h) }

pub asked : (n : NewToken) (token : Text) → IfSome n.at (λ s. s ≤ last_second) → MeansTokenAdd n token (token_add_arguments n token)
asked n token within = go n.at within
  where
    go : (at : Option ℕ) → IfSome at (λ s. s ≤ last_second) → MeansTokenAdd (record n { at = at }) token (token_add_arguments (record n { at = at }) token)
    go None within = at_no_moment n.who n.existing n.db n.user token
    go (Some s) within = at_moment n.who n.existing n.db n.user token s within
