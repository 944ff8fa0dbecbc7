use Rattle.registry_service.proofs.LabelFacts.{turns-honest}
use Rattle.registry_service.proofs.laws.not_modified_is_honest.Goals as goal

pub returns : goal.returns
returns g c = turns-honest g.D.HttpService.speaks g.D.Service.answers
