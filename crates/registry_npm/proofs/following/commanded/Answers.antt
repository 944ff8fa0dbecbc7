use Rattle.registry_npm.proofs.ComesFacts.{comes-asked, comes-ended, comes-read, comes-stopped}
use Rattle.registry_npm.proofs.following.commanded.Goals as goal

pub returns-in-Ok : goal.returns-in-Ok
returns-in-Ok g c = comes-read g.D.Service.answers _ _ _ _ c.in-Ok.what _ (rw c.as_slice.ensures at c.in-Ok.ensures) (comes-asked g.D.Service.answers _ _ _ _ _ _ _ _ c.request-request.ensures c.answer.ensures (comes-ended g.D.Service.answers _ _))

pub returns-in-Err : goal.returns-in-Err
returns-in-Err g c = comes-stopped g.D.Service.answers _ _ _ c.in-Err.stop _ (rw c.as_slice.ensures at c.in-Err.ensures) c.stopped.ensures
