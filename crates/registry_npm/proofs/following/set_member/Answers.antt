use Rattle.registry_npm.proofs.ComesFacts.{comes-read, comes-stopped}
use Rattle.registry_npm.proofs.following.set_member.Goals as goal

pub returns-in-Ok : goal.returns-in-Ok
returns-in-Ok g c = comes-read g.D.Service.answers _ _ _ _ (c.in-Ok.organisation, c.in-Ok.user, c.in-Ok.role) _ (rw c.as_slice.ensures at c.in-Ok.ensures) c.set_named.ensures

pub returns-in-Err : goal.returns-in-Err
returns-in-Err g c = comes-stopped g.D.Service.answers _ _ _ c.in-Err.stop _ (rw c.as_slice.ensures at c.in-Err.ensures) c.stopped.ensures
