-- Digests that are kept with what is shared.
use Rattle.std.specs.Prelude.{◌≡◌, ℕ, List, Option, Some, None}
use Rattle.sha2.specs.Sha256.{sha256}

-- a digest that is kept with these bytes is their SHA-256
abbrev pub IsDigestOf : List ℕ → Option (List ℕ) → Type 0
IsDigestOf bytes None = Unit {0}
IsDigestOf bytes (Some digest) = digest ≡ sha256 bytes
