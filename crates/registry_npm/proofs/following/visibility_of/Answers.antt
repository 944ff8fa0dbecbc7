use Rattle.std.proofs.Common.{refl}
use Rattle.registry_npm.specs.Callers.{who_of}
use Rattle.registry_npm.proofs.ComesFacts.{comes-asked, comes-ended, comes-read, comes-stopped}
use Rattle.registry_npm.proofs.following.visibility_of.Goals as goal

pub returns-in-Err : goal.returns-in-Err
returns-in-Err g c = comes-stopped g.D.Service.answers _ _ _ c.in-Err.stop _ c.in-Err.ensures c.stopped.ensures

pub returns-in-Ok-answer : goal.returns-in-Ok-answer
returns-in-Ok-answer g c = comes-read g.D.Service.answers _ _ _ _ (who_of c.in-Ok.who) _ c.in-Ok.ensures (comes-asked g.D.Service.answers _ _ _ _ _ _ _ _ refl c.in-Ok-answer.ensures (rw c.credential.ensures at c.told_to_caller.ensures))

pub returns : goal.returns
returns g c = comes-read g.D.Service.answers _ _ _ _ (who_of c.in-Ok.who) _ c.in-Ok.ensures (comes-asked g.D.Service.answers _ _ _ _ _ _ _ _ refl c.in-Err-answer.ensures (comes-ended g.D.Service.answers _ _))
