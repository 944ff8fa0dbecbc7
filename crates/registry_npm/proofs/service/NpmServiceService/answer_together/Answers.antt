use Rattle.std.proofs.Common.{refl, ap}
use Rattle.registry_service.specs.Turns.{exchanges}
use Rattle.registry_npm.proofs.ServiceFacts.{each}
use Rattle.registry_npm.proofs.service.NpmServiceService.answer_together.Goals as goal

pub returns-clause-answers : goal.returns-clause-answers
returns-clause-answers g c = each g.D.Service.answers (λ s. s.service) (λ d. record { service = d }) (λ d. refl) (λ M N e. ap (λ d. record { service = d }) e) _ (exchanges c.args.requests.now c.answer_together.new.outcomes) _ c.answer_together.ensures.answers
