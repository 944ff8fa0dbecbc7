use Rattle.std.proofs.Common.{length}
use Rattle.registry_routes.proofs.npm_route.+npm_route_at.Given as goal

abbrev pub decreases-npm_route_at : goal.decreases-npm_route_at
decreases-npm_route_at l = length l.rows.now
