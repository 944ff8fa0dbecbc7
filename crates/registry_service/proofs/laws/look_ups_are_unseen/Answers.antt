use Rattle.registry_service.proofs.LawFacts.{look-up-unseen}
use Rattle.registry_service.proofs.laws.look_ups_are_unseen.Goals as goal

pub returns : goal.returns
returns g c = look-up-unseen g.D.HttpService.speaks g.D.Service.answers
