use Rattle.registry_npm.specs.Callers.{who_of}
use Rattle.registry_npm.proofs.ComesFacts.{comes-asked, comes-ended, comes-read, comes-stopped}
use Rattle.registry_npm.proofs.documents.answered.Goals as goal

pub returns-in-Err : goal.returns-in-Err
returns-in-Err g c = comes-stopped g.D.Service.answers _ _ _ c.in-Err.stop _ c.in-Err.ensures c.stopped.ensures

pub returns : goal.returns
returns g c = comes-read g.D.Service.answers _ _ _ _ (who_of c.in-Ok.who) _ c.in-Ok.ensures (comes-asked g.D.Service.answers _ _ _ _ _ _ _ _ c.request-request.ensures c.answer.ensures (comes-ended g.D.Service.answers _ _))
