use Rattle.registry_npm.specs.Packages.{unless_nobody}
use Rattle.registry_npm.proofs.ComesFacts.{comes-alone, comes-asked, comes-read, comes-stopped}
use Rattle.registry_npm.proofs.commands.owner_add.Goals as goal

pub returns-in-Err : goal.returns-in-Err
returns-in-Err g c = comes-stopped g.D.Service.answers _ _ _ c.in-Err.stop _ c.in-Err.ensures c.stopped.ensures

pub returns-in-Ok : goal.returns-in-Ok
returns-in-Ok g c = comes-read g.D.Service.answers _ _ _ _ c.in-Ok.user _ c.in-Ok.ensures (comes-asked g.D.Service.answers _ _ _ _ _ _ _ _ c.request-request.ensures c.answer-outcome.ensures (comes-alone g.D.Service.answers _ (unless_nobody c.answer-outcome.result) _ c.unless_nobody.ensures))
