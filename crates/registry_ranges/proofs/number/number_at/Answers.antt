use Rattle.std.proofs.Common.{◌≡◌, true, false, rules, arith, slice_index, sym, ap, ◌∙◌, length, drop, ℕ, List, Result}
use Rattle.std.proofs.lemmas.List.{drop_all}
use Rattle.std.specs.Char.{is_ascii_digit}
use Rattle.semver.specs.Parse.{digits_from, digits_end}
use Rattle.semver.specs.declared.error.Error.{Error}
use Rattle.semver.specs.declared.error.Position.TheVariants as place
use Rattle.semver.proofs.Readers.{digits-next, digits-over, digits-stop, digits-zero}
use Rattle.registry_ranges.specs.Reading.{number_at, within_limit, answered, Read}
use Rattle.registry_ranges.proofs.number.number_at.Goals as goal

abbrev limited : Result (ℕ × List ℕ) Error → Read ℕ
limited r = within_limit (answered r)

pub returns-then-not-is_ascii_digit : goal.returns-then-not-is_ascii_digit
unfolding number_at
returns-then-not-is_ascii_digit c =
    let d : is_ascii_digit (slice_index c.args.bytes.now c.digits.i) ≡ false = search rules in
    c.number_end.ensures ∙ ap limited (sym (c.digits.invariant ∙ digits-stop place.Major c.digits.value c.digits.i c.args.bytes.now c.digits.i c.digits-test.true d))

pub returns-then-is_leading_zero : goal.returns-then-is_leading_zero
unfolding number_at
returns-then-is_leading_zero c =
    let d : is_ascii_digit (slice_index c.args.bytes.now c.digits.i) ≡ true = sym c.if-not-is_ascii_digit.ensures.value in
    ap limited (sym (c.digits.invariant ∙ digits-zero place.Major c.digits.value c.digits.i c.args.bytes.now c.digits.i c.digits-test.true d (sym c.if-is_leading_zero.ensures)))

pub returns-in_default : goal.returns-in_default
unfolding number_at
returns-in_default c =
    let d : is_ascii_digit (slice_index c.args.bytes.now c.digits.i) ≡ true = sym c.if-not-is_ascii_digit.ensures.value in
    ap limited (sym (c.digits.invariant ∙ digits-over place.Major c.digits.value c.digits.i c.args.bytes.now c.digits.i c.digits-test.true d (sym c.if-is_leading_zero.ensures) c.in_default.ensures.none))

pub digits-preserved : goal.digits-preserved
digits-preserved c =
    let d : is_ascii_digit (slice_index c.args.bytes.now c.digits.i) ≡ true = sym c.if-not-is_ascii_digit.ensures.value in
    let sum = c.in-Some.ensures.some in
    rw sum.0 (c.digits.invariant ∙ digits-next place.Major c.digits.value c.digits.i c.args.bytes.now c.digits.i c.digits-test.true d (sym c.if-is_leading_zero.ensures) (rw sum.0 at sum.1))

pub returns : goal.returns
unfolding digits_from number_at
returns c =
    let all : c.digits.i ≡ length c.args.bytes.now = omega arith in
    let done = drop_all (length c.args.bytes.now) c.args.bytes.now (omega arith) in
    let whole = rw all at c.digits.invariant in
    let ended = rw done at whole in
    let e : digits_from place.Major 0 0 c.args.bytes.now ≡ digits_end place.Major c.digits.value (length c.args.bytes.now) (drop (length c.args.bytes.now) c.args.bytes.now) = rw done ended in
    c.number_end-2.ensures ∙ ap limited (sym e)
