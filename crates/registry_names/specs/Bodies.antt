-- The size of a body.
use Rattle.std.specs.Prelude.{ℕ}

-- the most bytes of a body that is read: 4 MiB
abbrev pub body_limit : ℕ
body_limit = 4194304
