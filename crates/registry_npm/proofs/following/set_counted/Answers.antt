use Rattle.std.proofs.Common.{sym}
use Rattle.registry_npm.proofs.ComesFacts.{comes-formed, comes-formless, comes-starved}
use Rattle.registry_npm.proofs.following.set_counted.Goals as goal

pub returns-in-Ok-Some : goal.returns-in-Ok-Some
returns-in-Ok-Some g c = comes-formed g.D.Service.answers _ _ _ _ _ _ (sym (rw c.in-Ok-Some.field-0-is at c.in-Ok-Some.ensures.ok)) c.give_role.ensures

pub returns-in-Ok-None : goal.returns-in-Ok-None
returns-in-Ok-None g c = comes-formless g.D.Service.answers _ _ _ (sym (rw c.in-Ok-None.field-0-is at c.in-Ok-None.ensures.ok))

pub returns-in-Err : goal.returns-in-Err
returns-in-Err g c = rw c.in-Err.ensures.err (comes-starved g.D.Service.answers _ _)
