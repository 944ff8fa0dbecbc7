-- How a path is read from its front on, as the code does it, for private clauses. That it comes to
-- the same as the segments do is proved.
use Rattle.std.specs.Prelude.{ℕ, ◌&&◌, not, Bool, List, [], ◌∷◌, length, drop, take_while, bytes_eq, map, Option, Some, None, option_map, option_and_then, if◌then◌else◌}
use Rattle.std.specs.Borrow.{Bor}
use Rattle.registry_names.specs.Texts.{Text}
use Rattle.registry_names.specs.declared.method.Method.{Method}
use Rattle.registry_routes.specs.NpmRoutes as npm_routes
use Rattle.registry_routes.specs.NpmRoutes.{or_later_npm}
use Rattle.registry_routes.specs.NpmTable as npm_rows
use Rattle.registry_routes.specs.Paths.{is_slash, has_bytes, is_scope}
use Rattle.registry_routes.specs.Pieces as piece
use Rattle.registry_routes.specs.Pieces.{is_dash}
use Rattle.registry_routes.specs.Routes as route
use Rattle.registry_routes.specs.Routes.{joined, no_values, with_piece, is_same, or_later}
use Rattle.registry_routes.specs.Table as rows
use Rattle.registry_routes.specs.declared.endpoint.Endpoint.{Endpoint}
use Rattle.registry_routes.specs.declared.npm_endpoint.NpmEndpoint.{NpmEndpoint}
use Rattle.registry_routes.specs.declared.npm_route.NpmRoute.{NpmRoute}
use Rattle.registry_routes.specs.declared.route.Route.{Route}
use Rattle.registry_routes.specs.declared.route.Values.{Values}
use Rattle.registry_routes.specs.declared.table.Piece.{Piece}
use Rattle.registry_routes.specs.declared.table.Piece.TheVariants.{Literal, Name, Value, File}

-- ---- the code's values

abbrev pub split_view : Option (Bor Text × Bor Text) → Option (Text × Text)
split_view None = None
split_view (Some s) = Some (s.0.now, s.1.now)

abbrev pub piece_view : Piece → piece.Piece
piece_view (Literal s) = piece.literal s.now
piece_view Name = piece.name
piece_view Value = piece.value
piece_view File = piece.file

abbrev pub row_view : Method × Bor (List Piece) × Endpoint → rows.Row
row_view r = rows.row r.0 (map piece_view r.1.now) r.2

abbrev pub values_view : Values → route.Values
values_view v = record { first = v.first.now; second = v.second.now; third = v.third.now }

abbrev pub some_values_view : Option Values → Option route.Values
some_values_view None = None
some_values_view (Some v) = Some (values_view v)

abbrev pub route_view : Option Route → Option route.Route
route_view None = None
route_view (Some r) = Some (record { endpoint = r.endpoint; values = values_view r.values })

abbrev pub npm_row_view : Method × Bor (List Piece) × NpmEndpoint → npm_rows.NpmRow
npm_row_view r = npm_rows.npm_row r.0 (map piece_view r.1.now) r.2

abbrev pub npm_route_view : Option NpmRoute → Option npm_routes.NpmRoute
npm_route_view None = None
npm_route_view (Some r) = Some (record { endpoint = r.endpoint; values = values_view r.values })

-- ---- segments

abbrev pub is_within : ℕ → Bool
is_within b = not (is_slash b)

-- how many bytes the segment at the front has
abbrev pub segment_len : Text → ℕ
segment_len text = length (take_while is_within text)

abbrev pub some_segment : Text → Text → Option (Text × Text)
some_segment [] rest = None
some_segment (b ∷ bs) rest = Some (b ∷ bs, rest)

-- the segment after the slash at the front, and what follows it
abbrev pub segment_at : Text → Option (Text × Text)
segment_at [] = None
segment_at (b ∷ text) = if is_slash b then some_segment (take_while is_within text) (drop (segment_len text) text) else None

abbrev pub with_next : Text × Text → Option (Text × Text)
with_next s = option_map (λ t. (joined s.0 t.0, t.1)) (segment_at s.1)

-- two segments
abbrev pub pair_at : Text → Option (Text × Text)
pair_at path = option_and_then with_next (segment_at path)

-- ---- pieces

abbrev pub literal_from : Text → Text × Text → Option (Text × Text)
literal_from t s = if bytes_eq s.0 t then Some s else None

abbrev pub name_from : Text → Text × Text → Option (Text × Text)
name_from path s = if is_dash s.0 then None else (if is_scope s.0 && has_bytes s.1 then pair_at path else Some s)

abbrev pub file_from : Text → Text × Text → Option (Text × Text)
file_from path s = if has_bytes s.1 then pair_at path else Some s

abbrev pub piece_at : piece.Piece → Text → Option (Text × Text)
piece_at (piece.literal t) path = option_and_then (literal_from t) (segment_at path)
piece_at piece.name path = option_and_then (name_from path) (segment_at path)
piece_at piece.value path = segment_at path
piece_at piece.file path = option_and_then (file_from path) (segment_at path)

-- ---- rows

abbrev pub at_end : Text → Option route.Values
at_end [] = Some no_values
at_end (b ∷ path) = None

abbrev pub with_later : piece.Piece → (Text → Option route.Values) → Text × Text → Option route.Values
with_later p later v = option_map (with_piece p v.0) (later v.1)

abbrev pub values_at : List piece.Piece → Text → Option route.Values
values_at [] path = at_end path
values_at (p ∷ ps) path = option_and_then (with_later p (values_at ps)) (piece_at p path)

abbrev pub values_at_row : rows.Row → Method → Text → Option route.Values
values_at_row r method path = if is_same r.method method then values_at r.pieces path else None

abbrev pub route_at : List rows.Row → Method → Text → Option route.Route
route_at [] method path = None
route_at (r ∷ rows) method path = or_later r.endpoint (values_at_row r method path) (route_at rows method path)

-- ---- the rows of npm's own requests

abbrev pub values_at_npm : npm_rows.NpmRow → Method → Text → Option route.Values
values_at_npm r method path = if is_same r.method method then values_at r.pieces path else None

abbrev pub npm_route_at : List npm_rows.NpmRow → Method → Text → Option npm_routes.NpmRoute
npm_route_at [] method path = None
npm_route_at (r ∷ rows) method path = or_later_npm r.endpoint (values_at_npm r method path) (npm_route_at rows method path)
