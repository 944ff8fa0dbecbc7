-- The route of npm's own that a method and a target take, and the values in the target's path.
use Rattle.std.specs.Prelude.{List, [], ◌∷◌, Option, Some, None, option_and_then, if◌then◌else◌}
use Rattle.registry_names.specs.Texts.{Text}
use Rattle.registry_names.specs.declared.method.Method.{Method}
use Rattle.registry_routes.specs.NpmTable.{NpmRow, npm_table}
use Rattle.registry_routes.specs.Paths.{path_of, segments_of}
use Rattle.registry_routes.specs.Routes.{Values, is_same, values_in}
use Rattle.registry_routes.specs.declared.npm_endpoint.NpmEndpoint.{NpmEndpoint}

pub record NpmRoute : Type 0 where
  pub endpoint : NpmEndpoint
  pub values : Values

-- the values, where a row has the method and the segments
abbrev pub values_of_npm : NpmRow → Method → List Text → Option Values
values_of_npm r method ss = if is_same r.method method then values_in r.pieces ss else None

abbrev pub or_later_npm : NpmEndpoint → Option Values → Option NpmRoute → Option NpmRoute
or_later_npm endpoint None later = later
or_later_npm endpoint (Some vs) later = Some (record { endpoint = endpoint; values = vs })

-- the first row that has the method and the segments
abbrev pub npm_route_in : List NpmRow → Method → List Text → Option NpmRoute
npm_route_in [] method ss = None
npm_route_in (r ∷ rows) method ss = or_later_npm r.endpoint (values_of_npm r method ss) (npm_route_in rows method ss)

-- the route of npm's own that a method and a target take
unfoldable pub npm_route_of : Method → Text → Option NpmRoute
npm_route_of method target = option_and_then (npm_route_in npm_table method) (segments_of (path_of target))
