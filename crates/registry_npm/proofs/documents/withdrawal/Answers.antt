use Rattle.registry_npm.proofs.ComesFacts.{comes-read, comes-stopped}
use Rattle.registry_npm.proofs.documents.withdrawal.Goals as goal

pub returns-in-Err : goal.returns-in-Err
returns-in-Err g c = comes-stopped g.D.Service.answers _ _ _ c.in-Err.stop _ c.in-Err.ensures c.stopped.ensures

pub returns-in-Ok : goal.returns-in-Ok
returns-in-Ok g c = comes-read g.D.Service.answers _ _ _ _ c.in-Ok.name _ c.in-Ok.ensures c.withdrawal_of.ensures
