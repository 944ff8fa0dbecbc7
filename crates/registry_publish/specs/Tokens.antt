-- Tokens, and what is kept of one.
use Rattle.std.specs.Prelude.{ℕ, ◌==◌, ◌&&◌, ◌||◌, nat_le, Bool, List, length, codes, Option, Some, None, if◌then◌else◌}
use Rattle.std.specs.List.{list_all, list_any}
use Rattle.sha2.specs.Sha256.{sha256}
use Rattle.registry_names.specs.Tags.{is_alphanumeric}

-- A-Z a-z 0-9 - _ . ~ + / =
abbrev pub is_token_char : ℕ → Bool
is_token_char c = is_alphanumeric c || list_any (λ m. m == c) (codes "-_.~+/=")

-- 16 to 128 characters of a token
abbrev pub is_token : List ℕ → Bool
is_token t = nat_le 16 (length t) && nat_le (length t) 128 && list_all is_token_char t

-- the SHA-256 of a token; None for another text
abbrev pub digest_of : List ℕ → Option (List ℕ)
digest_of t = if is_token t then Some (sha256 t) else None

-- the digest that has these bytes; None where they aren't 32
abbrev pub digest_with : List ℕ → Option (List ℕ)
digest_with bytes = if length bytes == 32 then Some bytes else None
