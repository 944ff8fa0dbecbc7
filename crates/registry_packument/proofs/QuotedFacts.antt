-- Texts of which nothing has to be escaped in a JSON string.
use Rattle.std.proofs.Common.{◌≡◌, ℕ, true, List, [], ◌∷◌, ◌++◌, refl, ap}
use Rattle.std.specs.Prelude.{◌&&◌, ◌==◌, not, nat_lt}
use Rattle.std.specs.List.{list_all}
use Rattle.std.proofs.lemmas.Bool.{and_parts, eqb-false, ltb-false, not-true}
use Rattle.json.specs.Print.{escape, escape_byte, quoted}
use Rattle.json.proofs.Printed.Strings.{escape_byte_plain}
use Rattle.registry_packument.specs.TextValues.{is_plain_char}

plain_byte : (x : ℕ) → is_plain_char x ≡ true → escape_byte x ≡ x ∷ []
plain_byte x plain =
    let parts = and_parts (not (nat_lt x 32)) (not (x == 34) && not (x == 92)) plain in
    let others = and_parts (not (x == 34)) (not (x == 92)) parts.1 in
    escape_byte_plain x (eqb-false x 34 (not-true (x == 34) others.0)) (eqb-false x 92 (not-true (x == 92) others.1)) (ltb-false x 32 (not-true (nat_lt x 32) parts.0))

plain_text : (text : List ℕ) → list_all is_plain_char text ≡ true → escape text ≡ text
plain_text [] plain = refl
plain_text (x ∷ xs) plain =
    let parts = and_parts (is_plain_char x) (list_all is_plain_char xs) plain in
    rw (plain_byte x parts.0, plain_text xs parts.1) refl

-- a text in quotes is the text between two quotes
pub quoted-plain : (text : List ℕ) → list_all is_plain_char text ≡ true → quoted text ≡ 34 ∷ (text ++ 34 ∷ [])
quoted-plain text plain = ap (λ xs. 34 ∷ (xs ++ 34 ∷ [])) (plain_text text plain)
