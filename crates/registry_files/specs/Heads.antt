-- How the file of a database begins.
use Rattle.std.specs.Prelude.{ℕ, List, [], ◌∷◌, ◌++◌, codes}

-- the first 16 bytes of each database of SQLite
abbrev pub magic : List ℕ
magic = codes "SQLite format 3" ++ 0 ∷ []
