-- The path of a request's target, and the segments of a path.
use Rattle.std.specs.Prelude.{ℕ, ◌==◌, ◌&&◌, ◌||◌, not, Bool, true, false, List, [], ◌∷◌, take_while, Option, Some, None, if◌then◌else◌}
use Rattle.std.specs.List.{list_all, slice_split}
use Rattle.registry_names.specs.Texts.{Text}

-- the target up to its first `?`
abbrev pub path_of : Text → Text
path_of target = take_while (λ b. not (b == 63)) target

abbrev pub is_slash : ℕ → Bool
is_slash b = b == 47

abbrev pub has_bytes : Text → Bool
has_bytes [] = false
has_bytes (b ∷ bs) = true

-- what follows the slash at the front, where nothing comes before it and no segment is empty
abbrev pub behind_slash : List Text → Option (List Text)
behind_slash [] = None
behind_slash ([] ∷ segments) = if list_all has_bytes segments then Some segments else None
behind_slash ((b ∷ bs) ∷ segments) = None

-- the segments of a path: each follows a slash, and none is empty. None for another text
unfoldable pub segments_of : Text → Option (List Text)
segments_of path = behind_slash (slice_split is_slash path)

-- ---- scopes

-- the bytes begin with `%2f` or `%2F`, which means a slash
abbrev pub is_escaped_slash : Text → Bool
is_escaped_slash (a ∷ b ∷ c ∷ rest) = a == 37 && b == 50 && (c == 102 || c == 70)
is_escaped_slash _ = false

abbrev pub has_escaped_slash : Text → Bool
has_escaped_slash [] = false
has_escaped_slash (b ∷ bs) = is_escaped_slash (b ∷ bs) || has_escaped_slash bs

-- the bytes begin with `@`, or with `%40`, which means it
abbrev pub begins_with_at : Text → Bool
begins_with_at [] = false
begins_with_at (a ∷ []) = a == 64
begins_with_at (a ∷ b ∷ []) = a == 64
begins_with_at (a ∷ b ∷ c ∷ rest) = a == 64 || (a == 37 && b == 52 && c == 48)

-- a segment is a scope, and the next one the name's part: it begins with an at sign, and has no
-- escaped slash
abbrev pub is_scope : Text → Bool
is_scope segment = begins_with_at segment && not (has_escaped_slash segment)
