use Rattle.std.proofs.Common.{true}
use Rattle.registry_npm.proofs.ComesFacts.{comes-stranger, comes-user}
use Rattle.registry_npm.proofs.documents.revised.Goals as goal

pub returns-in-Ok : goal.returns-in-Ok
returns-in-Ok g c = comes-user g.D.Service.answers c.args.wanted.now _ true _ _ _ _ c.in-Ok.who _ c.in-Ok.ensures c.claim.ensures

pub returns-in-Err : goal.returns-in-Err
returns-in-Err g c = rw c.of.ensures (comes-stranger g.D.Service.answers c.args.wanted.now _ true _ _ _ _ c.in-Err.ensures)
