use Rattle.std.proofs.Common.{length}
use Rattle.registry_routes.proofs.route.+values_at.Given as goal

abbrev pub decreases-values_at : goal.decreases-values_at
decreases-values_at l = length l.pieces.now
