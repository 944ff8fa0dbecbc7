-- Moments: whole seconds from 1970-01-01T00:00:00Z to 9999-12-31T23:59:59Z.
use Rattle.std.specs.Prelude.{◌≡◌, ◌≤ℤ◌, ℕ, ℤ, pos, negsuc, min, nat_le, unsigned_abs, Option, Some, None, if◌then◌else◌, refl}

abbrev pub last_second : ℕ
last_second = 253402300799

-- the moment of this many seconds, if there is one
abbrev pub moment_of : ℤ → Option ℕ
moment_of (pos n) = if nat_le n last_second then Some n else None
moment_of (negsuc n) = None

-- the moment nearest to this many seconds
abbrev pub nearest_moment : ℤ → ℕ
nearest_moment (pos n) = min n last_second
nearest_moment (negsuc n) = 0

-- the seconds of a moment come back from their number
pub seconds_again : (z : ℤ) → pos 0 ≤ℤ z → pos (unsigned_abs z) ≡ z
seconds_again (pos n) h = refl
seconds_again (negsuc n) h = absurd (h.le)
