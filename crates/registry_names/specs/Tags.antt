-- The characters and the length of tags, and the tag that every package has.
use Rattle.std.specs.Prelude.{ℕ, ◌==◌, ◌&&◌, ◌||◌, nat_le, Bool, List, length, codes}
use Rattle.std.specs.List.{list_all, list_any}

-- A-Z a-z 0-9
abbrev pub is_alphanumeric : ℕ → Bool
is_alphanumeric c = (nat_le 65 c && nat_le c 90) || (nat_le 97 c && nat_le c 122) || (nat_le 48 c && nat_le c 57)

-- A-Z a-z 0-9 - _ . ! ~ * ' ( )
abbrev pub is_tag_char : ℕ → Bool
is_tag_char c = is_alphanumeric c || list_any (λ m. m == c) (codes "-_.!~*'()")

-- 1 to 214 characters of a tag
abbrev pub is_tag : List ℕ → Bool
is_tag t = nat_le 1 (length t) && nat_le (length t) 214 && list_all is_tag_char t

-- the tag that exists while a version lives
abbrev pub latest : List ℕ
latest = codes "latest"
