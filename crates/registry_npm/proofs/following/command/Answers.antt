use Rattle.std.proofs.Common.{false}
use Rattle.registry_npm.proofs.ComesFacts.{comes-stranger, comes-user}
use Rattle.registry_npm.proofs.following.command.Goals as goal

pub returns-in-Ok : goal.returns-in-Ok
returns-in-Ok g c = comes-user g.D.Service.answers c.args.wanted.now _ false _ _ _ _ c.in-Ok.who _ c.in-Ok.ensures c.commanded.ensures

pub returns-in-Err : goal.returns-in-Err
returns-in-Err g c = comes-stranger g.D.Service.answers c.args.wanted.now _ false _ _ _ _ c.in-Err.ensures
