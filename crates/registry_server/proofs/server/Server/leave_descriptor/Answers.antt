use Rattle.registry_server.specs.Pools.{nobody_comes}
use Rattle.registry_server.proofs.server.Server.leave_descriptor.Goals as goal

pub returns-else-is_err : goal.returns-else-is_err
returns-else-is_err g c = record { comes = λ now. nobody_comes }
