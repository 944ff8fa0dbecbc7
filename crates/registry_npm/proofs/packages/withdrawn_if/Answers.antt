use Rattle.registry_npm.proofs.ComesFacts.{comes-unless}
use Rattle.registry_npm.proofs.packages.withdrawn_if.Goals as goal

pub returns : goal.returns
returns g c = comes-unless g.D.Service.answers _ _ _ _ c.if-is_present.false
