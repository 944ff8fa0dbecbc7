-- The route that a method and a target take, and the values in the target's path.
use Rattle.std.specs.Prelude.{Bool, true, false, List, [], ◌∷◌, ◌++◌, bytes_eq, Option, Some, None, option_map, option_and_then, if◌then◌else◌}
use Rattle.registry_names.specs.Texts.{Text}
use Rattle.registry_names.specs.declared.method.Method.{Method}
use Rattle.registry_names.specs.declared.method.Method.TheVariants.{Get, Put, Post, Delete, Other}
use Rattle.registry_routes.specs.Paths.{path_of, segments_of, is_scope}
use Rattle.registry_routes.specs.Pieces.{Piece, literal, name, value, file, is_dash}
use Rattle.registry_routes.specs.Table.{Row, table}
use Rattle.registry_routes.specs.declared.endpoint.Endpoint.{Endpoint}

-- the values of a path, from left to right, as they are written there; where a route has fewer than
-- three, the others are empty
pub record Values : Type 0 where
  pub first : Text
  pub second : Text
  pub third : Text

abbrev pub no_values : Values
no_values = record { first = []; second = []; third = [] }

-- one more in front
abbrev pub before : Text → Values → Values
before v vs = record { first = v; second = vs.first; third = vs.second }

pub record Route : Type 0 where
  pub endpoint : Endpoint
  pub values : Values

-- ---- a piece

-- two segments as they are in a path, with the slash between them
abbrev pub joined : Text → Text → Text
joined s t = s ++ 47 ∷ t

-- the name that begins with this segment, and the segments after it: a scope takes the next one
-- with it, where there is one
abbrev pub name_from : Text → List Text → Text × List Text
name_from s [] = (s, [])
name_from s (t ∷ ss) = if is_scope s then (joined s t, ss) else (s, t ∷ ss)

-- the file that begins with this segment, and the segments after it
abbrev pub file_from : Text → List Text → Text × List Text
file_from s [] = (s, [])
file_from s (t ∷ ss) = (joined s t, ss)

-- what takes the place of the piece at the front of the segments, and the segments after it
abbrev pub piece_of : Piece → List Text → Option (Text × List Text)
piece_of p [] = None
piece_of (literal t) (s ∷ ss) = if bytes_eq s t then Some (s, ss) else None
piece_of name (s ∷ ss) = if is_dash s then None else Some (name_from s ss)
piece_of value (s ∷ ss) = Some (s, ss)
piece_of file (s ∷ ss) = Some (file_from s ss)

-- ---- a row

-- the values, with what takes the place of a piece in front, unless the piece is a literal segment
abbrev pub with_piece : Piece → Text → Values → Values
with_piece (literal t) v vs = vs
with_piece name v vs = before v vs
with_piece value v vs = before v vs
with_piece file v vs = before v vs

abbrev pub with_later : Piece → (List Text → Option Values) → Text × List Text → Option Values
with_later p later v = option_map (with_piece p v.0) (later v.1)

-- the values of the segments, where they are made of these pieces
abbrev pub values_in : List Piece → List Text → Option Values
values_in [] [] = Some no_values
values_in [] (s ∷ ss) = None
values_in (p ∷ ps) ss = option_and_then (with_later p (values_in ps)) (piece_of p ss)

-- ---- the table

abbrev pub is_same : Method → Method → Bool
is_same Get Get = true
is_same Put Put = true
is_same Post Post = true
is_same Delete Delete = true
is_same Other Other = true
is_same _ _ = false

-- the values, where a row has the method and the segments
abbrev pub values_of_row : Row → Method → List Text → Option Values
values_of_row r method ss = if is_same r.method method then values_in r.pieces ss else None

abbrev pub or_later : Endpoint → Option Values → Option Route → Option Route
or_later endpoint None later = later
or_later endpoint (Some vs) later = Some (record { endpoint = endpoint; values = vs })

-- the first row that has the method and the segments
abbrev pub route_in : List Row → Method → List Text → Option Route
route_in [] method ss = None
route_in (r ∷ rows) method ss = or_later r.endpoint (values_of_row r method ss) (route_in rows method ss)

-- the route that a method and a target take
unfoldable pub route_of : Method → Text → Option Route
route_of method target = option_and_then (route_in table method) (segments_of (path_of target))
