-- The names of users, organisations and teams.
use Rattle.std.specs.Prelude.{ℕ, ◌==◌, ◌&&◌, ◌||◌, nat_le, Bool, List, length, slice_index}
use Rattle.std.specs.List.{list_all}

-- a-z 0-9
abbrev pub is_lower_alphanumeric : ℕ → Bool
is_lower_alphanumeric c = (nat_le 97 c && nat_le c 122) || (nat_le 48 c && nat_le c 57)

-- a-z 0-9 - _
abbrev pub is_ident_char : ℕ → Bool
is_ident_char c = is_lower_alphanumeric c || c == 45 || c == 95

-- 1 to 64 characters of a-z 0-9 - _, the first a letter or digit (an empty text has no first
-- character)
abbrev pub is_ident : List ℕ → Bool
is_ident t = nat_le (length t) 64 && is_lower_alphanumeric (slice_index t 0) && list_all is_ident_char t
