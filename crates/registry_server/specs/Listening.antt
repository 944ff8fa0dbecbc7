-- Where connections come in, and how many more may.
use Rattle.std.specs.Prelude.{ℕ, ◌-◌, ◌∷◌, [], List, max, nat_lt, Bool, true, Option, Some, None, if◌then◌else◌}

-- the octets of the address 127.0.0.1
abbrev pub loopback : List ℕ
loopback = 127 ∷ 0 ∷ 0 ∷ 1 ∷ []

-- the number from which on connections aren't counted
abbrev pub uncounted : ℕ
uncounted = 1_000_000

-- how many are still to come in, where they are counted, and whether one may be there
pub record Expected : Type 0 where
  pub left : Option ℕ
  pub is_asked : Bool

abbrev pub expecting : Option ℕ → Bool → Expected
expecting left is_asked = record { left = left; is_asked = is_asked }

-- at least one, and this many; from the greatest number on, all that come
abbrev pub counted : ℕ → Option ℕ
counted count = if nat_lt count uncounted then Some (max count 1) else None

-- one more may come in
abbrev pub lets_in : Option ℕ → Bool
lets_in None = true
lets_in (Some left) = nat_lt 0 left

-- one came in
abbrev pub one_less : Option ℕ → Option ℕ
one_less None = None
one_less (Some left) = Some (left - 1)
