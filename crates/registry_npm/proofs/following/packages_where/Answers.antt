use Rattle.registry_npm.proofs.ComesFacts.{comes-asked, comes-either, comes-ended, comes-or_else}
use Rattle.registry_npm.proofs.following.packages_where.Goals as goal

pub returns-then-is_own : goal.returns-then-is_own
returns-then-is_own g c = comes-either g.D.Service.answers _ _ _ _ _ _ c.if-is_own.true (comes-asked g.D.Service.answers _ _ _ _ _ _ _ _ c.request-request.ensures c.answer.ensures (comes-ended g.D.Service.answers _ _))

pub returns-else-is_own : goal.returns-else-is_own
returns-else-is_own g c = comes-or_else g.D.Service.answers _ _ _ _ _ _ c.if-is_own.false (comes-ended g.D.Service.answers _ _)
