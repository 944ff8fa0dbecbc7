-- What holds of the paths of npm's own requests: the laws that the functions of `src/laws.rt` ensure.
use Rattle.std.specs.Prelude.{◌≡◌, ◌++◌, ◌∷◌, List, Option, Some, None, option_map, AllPairs, IsNone, IsSome}
use Rattle.registry_names.specs.Texts.{Text}
use Rattle.registry_names.specs.declared.method.Method.{Method}
use Rattle.registry_routes.specs.NpmRoutes.{NpmRoute, npm_route_of, values_of_npm}
use Rattle.registry_routes.specs.NpmTable.{NpmRow, npm_table}
use Rattle.registry_routes.specs.Routes.{Route, route_of}
use Rattle.registry_routes.specs.declared.endpoint.Endpoint.{Endpoint}
use Rattle.registry_routes.specs.declared.endpoint.Endpoint.TheVariants as ours
use Rattle.registry_routes.specs.declared.npm_endpoint.NpmEndpoint.{NpmEndpoint}
use Rattle.registry_routes.specs.declared.npm_endpoint.NpmEndpoint.TheVariants.{Packument, Document, OrgSet, OrgRemove, TeamCreate, TeamAdd, TeamRemove, Grant, Revoke}

-- ---- where the two tables meet

-- What a path of npm's asks for by the first table, if it has a route there: a packument and a
-- publish, and roles and members of the names `user`, `team` and `package`
abbrev pub met : NpmEndpoint → Option Endpoint
met Packument = Some ours.Packument
met Document = Some ours.Publish
met OrgSet = Some ours.OrgSet
met OrgRemove = Some ours.OrgRemove
met TeamCreate = Some ours.OrgSet
met TeamAdd = Some ours.TeamAdd
met TeamRemove = Some ours.TeamRemove
met Grant = Some ours.TeamAdd
met Revoke = Some ours.TeamRemove
met _ = None

abbrev pub endpoint_of : Route → Endpoint
endpoint_of r = r.endpoint

-- a target that takes a row of npm's takes by the first table what that row meets, and otherwise
-- no route
abbrev pub TablesMeet : Type 0
TablesMeet = (m : Method) (target : Text) (r : NpmRoute) → npm_route_of m target ≡ Some r → option_map endpoint_of (route_of m target) ≡ met r.endpoint

-- ---- the second table alone

-- what follows the first `?` of a target changes nothing
abbrev pub NpmQueriesChangeNothing : Type 0
NpmQueriesChangeNothing = (m : Method) (path query : Text) → npm_route_of m (path ++ 63 ∷ query) ≡ npm_route_of m path

-- where a row has a method and segments, the other row doesn't
abbrev pub NpmExcludes : NpmRow → NpmRow → Type 0
NpmExcludes r s = (m : Method) (segments : List Text) → IsSome (values_of_npm r m segments) → IsNone (values_of_npm s m segments)

-- at most one row of npm's table has a method and segments, so their order doesn't matter
abbrev pub OneNpmRowTakes : Type 0
OneNpmRowTakes = AllPairs NpmExcludes npm_table
