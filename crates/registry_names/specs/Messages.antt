-- Messages of deprecation.
use Rattle.std.specs.Prelude.{ℕ, nat_le, Bool, List, length}

-- at most 1,024 bytes
abbrev pub is_message : List ℕ → Bool
is_message t = nat_le (length t) 1024
