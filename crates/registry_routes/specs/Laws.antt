-- What holds of every path, in the words of an API page: the laws that the functions of
-- `src/laws.rt` ensure.
use Rattle.std.specs.Prelude.{◌≡◌, ◌⊎◌, ◌++◌, ◌∷◌, codes, Bool, true, false, not, List, Option, Some, None, AllPairs, IsNone, IsSome}
use Rattle.percent_encoding.specs.Percent.{percent_decode}
use Rattle.registry_names.specs.Texts.{Text}
use Rattle.registry_names.specs.declared.method.Method.{Method}
use Rattle.registry_routes.specs.Paths.{is_scope, path_of, segments_of}
use Rattle.registry_routes.specs.Pieces.{is_dash}
use Rattle.registry_routes.specs.Routes.{Route, Values, route_of, values_of_row}
use Rattle.registry_routes.specs.Table.{Row, table}
use Rattle.registry_routes.specs.declared.endpoint.Endpoint.{Endpoint}
use Rattle.registry_routes.specs.declared.endpoint.Endpoint.TheVariants.{Packument, Publish, VersionDoc, Archive}

-- what follows the first `?` of a target changes nothing
abbrev pub QueriesChangeNothing : Type 0
QueriesChangeNothing = (m : Method) (path query : Text) → route_of m (path ++ 63 ∷ query) ≡ route_of m path

-- where a row has a method and segments, the other row doesn't
abbrev pub Excludes : Row → Row → Type 0
Excludes r s = (m : Method) (segments : List Text) → IsSome (values_of_row r m segments) → IsNone (values_of_row s m segments)

-- at most one row of the table has a method and segments, so their order doesn't matter
abbrev pub OneRowTakes : Type 0
OneRowTakes = AllPairs Excludes table

-- ---- the segment `-`

-- the path of a route begins with the name of a package
abbrev pub begins_with_name : Endpoint → Bool
begins_with_name Packument = true
begins_with_name Publish = true
begins_with_name VersionDoc = true
begins_with_name Archive = true
begins_with_name _ = false

-- a path whose first segment is `-` has no route that begins with the name of a package, and any
-- other path has only such routes
abbrev pub DashIsNoName : Type 0
DashIsNoName = (m : Method) (target first : Text) (others : List Text) (r : Route)
    → segments_of (path_of target) ≡ Some (first ∷ others) → route_of m target ≡ Some r
    → begins_with_name r.endpoint ≡ not (is_dash first)

-- ---- escaped slashes

-- a slash, escaped in either case
abbrev pub IsEscapedSlash : Text → Type 0
IsEscapedSlash e = (e ≡ codes "%2f") ⊎ (e ≡ codes "%2F")

-- the first values mean the same text, and the others are the same
abbrev pub NamesAlike : Values → Values → Type 0
NamesAlike v w = (percent_decode v.first ≡ percent_decode w.first) × (v.second ≡ w.second) × (v.third ≡ w.third)

-- two targets take no route, or the same one with values alike
abbrev pub RoutesAlike : Option Route → Option Route → Type 0
RoutesAlike None None = Unit {0}
RoutesAlike (Some r) (Some s) = (r.endpoint ≡ s.endpoint) × NamesAlike r.values s.values
RoutesAlike None (Some s) = ⊥
RoutesAlike (Some r) None = ⊥

-- a scope and the next segment take the route that they take as one segment, with the slash between
-- them escaped in either case, and name the same package
abbrev pub EscapesAreSlashes : Type 0
EscapesAreSlashes = (m : Method) (target other s e t : Text) (others : List Text) → is_scope s ≡ true → IsEscapedSlash e
    → segments_of (path_of target) ≡ Some (s ∷ t ∷ others) → segments_of (path_of other) ≡ Some ((s ++ (e ++ t)) ∷ others)
    → RoutesAlike (route_of m target) (route_of m other)
