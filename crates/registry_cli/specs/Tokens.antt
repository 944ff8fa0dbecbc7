-- Tokens that are made of random bytes.
use Rattle.std.specs.Prelude.{◌≡◌, ℕ, List, ◌++◌, codes}
use Rattle.hex.specs.Hex.{IsBytes, encode_lower}

abbrev pub token_text : List ℕ → List ℕ
token_text random = codes "npm_" ++ encode_lower random

abbrev pub DifferentBytesDiffer : Type 0
DifferentBytesDiffer = (a b : List ℕ) → IsBytes a → IsBytes b → token_text a ≡ token_text b → a ≡ b
