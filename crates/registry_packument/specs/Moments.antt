-- The first and the last of some moments, in seconds.
use Rattle.std.specs.Prelude.{ℕ, List, [], ◌∷◌, min, max, Option, Some, None}

-- the first of both, where there is one
abbrev pub earlier : Option ℕ → Option ℕ → Option ℕ
earlier None o = o
earlier (Some n) None = Some n
earlier (Some n) (Some m) = Some (min n m)

-- the last of both, where there is one
abbrev pub later : Option ℕ → Option ℕ → Option ℕ
later None o = o
later (Some n) None = Some n
later (Some n) (Some m) = Some (max n m)

-- the first of some moments, if there is one
abbrev pub first_of : List ℕ → Option ℕ
first_of [] = None
first_of (n ∷ ns) = earlier (Some n) (first_of ns)

-- the last of some moments, if there is one
abbrev pub last_of : List ℕ → Option ℕ
last_of [] = None
last_of (n ∷ ns) = later (Some n) (last_of ns)
