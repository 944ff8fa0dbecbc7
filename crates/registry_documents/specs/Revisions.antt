-- The revision of a package: what npm's `_rev` is here.
use Rattle.std.specs.Prelude.{ℕ, List, [], ◌∷◌, ◌++◌}
use Rattle.hex.specs.Hex.{encode_lower}
use Rattle.sha2.specs.Sha256.{sha256}
use Rattle.registry_names.specs.Texts.{Text}

-- the names, each with a line feed behind it
abbrev pub lines : List Text → List ℕ
lines [] = []
lines (n ∷ ns) = n ++ 10 ∷ lines ns

-- what the revision is the digest of: the digest of the packument's text in hexadecimal, and the
-- maintainers' names
abbrev pub revised : List ℕ → List Text → List ℕ
revised digest names = encode_lower digest ++ lines names

-- the revision of a package whose packument's text has this SHA-256
abbrev pub revision_of : List ℕ → List Text → Text
revision_of digest names = encode_lower (sha256 (revised digest names))

-- the revision of a package with this packument and these maintainers: what npm's `_rev` is
abbrev pub revision : Text → List Text → Text
revision text names = revision_of (sha256 text) names
