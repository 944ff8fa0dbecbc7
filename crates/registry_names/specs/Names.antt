-- The names of packages.
use Rattle.std.specs.Prelude.{◌≡◌, ◌≤◌, ℕ, ◌==◌, ◌&&◌, ◌||◌, not, Bool, List, [], ◌∷◌, ◌++◌, length, slice_index, codes, true, Option, Some, None, if◌then◌else◌}
use Rattle.std.specs.List.{before_first, list_all}
use Rattle.std.specs.Str.{bytes_eq}
use Rattle.registry_names.specs.Idents.{is_lower_alphanumeric, is_ident, is_ident_char}

-- a-z 0-9 - _ .
abbrev pub is_name_char : ℕ → Bool
is_name_char c = is_ident_char c || c == 46

-- The part of a name without a scope begins with a letter or digit; two whole names are taken.
abbrev pub is_plain_part : List ℕ → Bool
is_plain_part p = is_lower_alphanumeric (slice_index p 0) && list_all is_name_char p
    && not (bytes_eq p (codes "node_modules")) && not (bytes_eq p (codes "favicon.ico"))

-- a-z 0-9 _ .
abbrev pub is_scoped_start : ℕ → Bool
is_scoped_start c = is_lower_alphanumeric c || c == 95 || c == 46

-- The part of a name with a scope begins with a letter, a digit, _ or ., and is neither . nor ..
abbrev pub is_scoped_part : List ℕ → Bool
is_scoped_part p = is_scoped_start (slice_index p 0) && list_all is_name_char p
    && not (bytes_eq p (codes ".")) && not (bytes_eq p (codes ".."))

abbrev pub longest_name : ℕ
longest_name = 214

-- the text is the name of this scope, if any, and this part: `part`, or `@scope/part`
abbrev pub IsNameOf : List ℕ → Option (List ℕ) → List ℕ → Type 0
IsNameOf t None p = (t ≡ p) × (is_plain_part p ≡ true) × (length t ≤ longest_name)
IsNameOf t (Some s) p = (t ≡ 64 ∷ (s ++ 47 ∷ p)) × (is_ident s ≡ true) × (is_scoped_part p ≡ true) × (length t ≤ longest_name)

-- the text is a name
abbrev pub IsName : List ℕ → Type 0
IsName t = (s : Option (List ℕ)) × ((p : List ℕ) × IsNameOf t s p)

-- the scope of a name: what is between an @ at its prefix and the first slash
abbrev pub scope_of : List ℕ → Option (List ℕ)
scope_of [] = None
scope_of (c ∷ rest) = if c == 64 then Some (before_first (λ d. d == 47) rest) else None
