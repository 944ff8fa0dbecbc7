-- Tokens of random bytes are in form, and differ where the bytes do.
use Rattle.std.proofs.Common.{◌≡◌, ◌∙◌, ◌<◌, ◌/◌, ◌%◌, ◌&&◌, ℕ, zero, suc, Bool, true, inl, inr, List, [], ◌∷◌, ap, codes, drop, length, slice_index, refl, arith}
use Rattle.std.specs.List.{list_all}
use Rattle.std.proofs.lemmas.Bool.{and_parts, cases_lt}
use Rattle.std.proofs.lemmas.List.Folds.{list_all-append}
use Rattle.hex.specs.Hex.{IsBytes, decode_of, encode_lower, encode_with, lower_digits}
use Rattle.hex.proofs.HexLemmas.{decode_of-encode_lower, decode_of-same, length-encode_with}
use Rattle.registry_publish.specs.Tokens.{is_token, is_token_char}
use Rattle.registry_cli.specs.Tokens.{DifferentBytesDiffer, token_text}

-- the first n of these are characters of a token
abbrev are_token_chars : List ℕ → ℕ → Bool
are_token_chars t zero = true
are_token_chars t (suc n) = is_token_char (slice_index t n) && are_token_chars t n

each_is : (t : List ℕ) (n k : ℕ) → are_token_chars t n ≡ true → k < n → is_token_char (slice_index t k) ≡ true
each_is t zero k h lt = absurd (omega arith)
each_is t (suc n) k h lt =
    let parts = and_parts (is_token_char (slice_index t n)) (are_token_chars t n) h in
    elim (cases_lt k n) [
      | inl below ↦ each_is t n k parts.1 below
      | inr top ↦
          let e : k ≡ n = omega arith in
          rw e parts.0
    ]

digits_are : (xs : List ℕ) → IsBytes xs → list_all is_token_char (encode_with lower_digits xs) ≡ true
unfolding encode_with
digits_are [] h = refl
digits_are (b ∷ rest) h =
    let fits : b < 256 = h 0 in
    let high : is_token_char (slice_index lower_digits (b / 16)) ≡ true = each_is lower_digits 16 (b / 16) refl (omega arith) in
    let low : is_token_char (slice_index lower_digits (b % 16)) ≡ true = each_is lower_digits 16 (b % 16) refl (omega arith) in
    rw (high, low) (digits_are rest (λ k. h (suc k)))

pub token_is : (xs : List ℕ) → length xs ≡ 20 → IsBytes xs → is_token (token_text xs) ≡ true
token_is xs twenty h =
    let digits = length-encode_with lower_digits xs in
    let size : length (token_text xs) ≡ 44 = omega (arith, digits, twenty) in
    let chars : list_all is_token_char (token_text xs) ≡ true = list_all-append is_token_char (codes "npm_") (encode_lower xs) ∙ digits_are xs h in
    rw (size, chars) refl

pub different : DifferentBytesDiffer
different a b fits_a fits_b same =
    let digits : encode_lower a ≡ encode_lower b = ap (drop 4) same in
    decode_of-same (encode_lower a) a b (decode_of-encode_lower a fits_a) (ap decode_of digits ∙ decode_of-encode_lower b fits_b)
