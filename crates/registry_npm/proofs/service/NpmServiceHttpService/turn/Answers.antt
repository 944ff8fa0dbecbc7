use Rattle.std.proofs.Common.{refl, ap}
use Rattle.registry_npm.proofs.ServiceFacts.{held-turns}
use Rattle.registry_npm.proofs.service.NpmServiceHttpService.turn.Goals as goal

pub returns : goal.returns
returns g c = held-turns g.D.Service.answers (λ s. s.service) (λ d. record { service = d }) (λ d. refl) (λ M N e. ap (λ d. record { service = d }) e) _ _ _ _ _ _ c.npm_turn.ensures
