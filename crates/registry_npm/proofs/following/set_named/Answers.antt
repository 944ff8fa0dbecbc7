use Rattle.registry_npm.proofs.ComesFacts.{comes-or, comes-starved}
use Rattle.registry_npm.proofs.following.set_named.Goals as goal

pub returns-in-Ok : goal.returns-in-Ok
returns-in-Ok g c = comes-or g.D.Service.answers _ _ _ _ c.count_members.ensures

pub returns-in-Err : goal.returns-in-Err
returns-in-Err g c = rw c.in-Err.ensures.err (comes-starved g.D.Service.answers _ _)
