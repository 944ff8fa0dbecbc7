use Rattle.std.proofs.Common.{length}
use Rattle.registry_routes.proofs.route.+route_at.Given as goal

abbrev pub decreases-route_at : goal.decreases-route_at
decreases-route_at l = length l.rows.now
