-- What the text of a moment reads as.
use Rattle.std.proofs.Common.{◌≡◌, ◌∙◌, ◌≤◌, ℕ, ℤ, Bool, true, false, List, Some, None, ap, arith, refl, sym, cond, true≢false}
use Rattle.std.specs.Prelude.{FitsSigned, nat_le, pos, negsuc, ◌≤ℤ◌}
use Rattle.std.specs.Int.{w64}
use Rattle.std.specs.Str.Parse.{IsNumeral, signed_digits_value, without_leading_sign}
use Rattle.std.proofs.lemmas.Bool.{leb-true}
use Rattle.std.proofs.lemmas.Int.{ints}
use Rattle.clap.specs.ValueTests.{accepts}
use Rattle.clap.proofs.ValueTestLemmas.{Accepts-accepts, accepts-Accepts}
use Rattle.registry_names.specs.Moments.{last_second, moment_of}
use Rattle.registry_cli.specs.Lines.{moment_in}
use Rattle.registry_cli.specs.Subcommands.{moments}

-- a number outside the option's bounds is no moment
outside : (z : ℤ) → ((pos 0 ≤ℤ z) → (z ≤ℤ pos last_second) → ⊥) → moment_of z ≡ None
outside (negsuc n) out = refl
outside (pos n) out = go (nat_le n last_second) refl
  where
    go : (b : Bool) → nat_le n last_second ≡ b → cond b (Some n) None ≡ None
    go false e = refl
    go true e = let within : n ≤ last_second = leb-true _ _ e in absurd (out (omega (arith, ints)) (omega (arith, ints)))

pub moment_read : (text : List ℕ) (z : ℤ) → IsNumeral 10 (without_leading_sign text) → FitsSigned w64 (signed_digits_value 10 text) → z ≡ signed_digits_value 10 text → moment_of z ≡ moment_in text
moment_read text z numeral fits is = ap moment_of is ∙ go (accepts false moments text) refl
  where
    go : (b : Bool) → accepts false moments text ≡ b → moment_of (signed_digits_value 10 text) ≡ cond b (moment_of (signed_digits_value 10 text)) None
    go true e = refl
    go false e = outside (signed_digits_value 10 text) (λ low high. true≢false (sym (Accepts-accepts false moments text (numeral, fits, low, high)) ∙ e))

pub moment_unread : (text : List ℕ) → ¬ (IsNumeral 10 (without_leading_sign text) × FitsSigned w64 (signed_digits_value 10 text)) → None ≡ moment_in text
moment_unread text unread = go (accepts false moments text) refl
  where
    go : (b : Bool) → accepts false moments text ≡ b → None ≡ cond b (moment_of (signed_digits_value 10 text)) None
    go false is = refl
    go true is = let taken = accepts-Accepts false moments text is in absurd (unread (taken.0, taken.1))
