use Rattle.registry_npm.proofs.ComesFacts.{comes-or, comes-starved}
use Rattle.registry_npm.proofs.packages.package.Goals as goal

pub returns-in-Ok : goal.returns-in-Ok
returns-in-Ok g c = comes-or g.D.Service.answers _ _ _ _ c.try_right.ensures

pub returns-in-Err : goal.returns-in-Err
returns-in-Err g c = rw (c.faulted.ensures, c.in-Err.ensures.err) (comes-starved g.D.Service.answers _ _)
