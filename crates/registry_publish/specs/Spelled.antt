-- The bodies that are read to a value.
use Rattle.std.specs.Prelude.{◌≡◌, ◌≤◌, ℕ, List, length, Some, IsUtf8}
use Rattle.serde_json.specs.Data.{Data}
use Rattle.serde_json.specs.Read.{read}
use Rattle.registry_names.specs.Bodies.{body_limit}

-- the bytes aren't too large for a body, and are JSON of this value
abbrev pub Spells : List ℕ → Data → Type 0
Spells b d = (length b ≤ body_limit) × IsUtf8 b × (read b ≡ Some d)
