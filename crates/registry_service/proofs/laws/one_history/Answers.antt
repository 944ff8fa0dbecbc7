use Rattle.registry_service.proofs.HistoryFacts.{one-history}
use Rattle.registry_service.specs.Turns.{spoken}
use Rattle.registry_service.proofs.laws.one_history.Goals as goal

pub returns : goal.returns
returns g c = λ M w reached. one-history (spoken g.D.HttpService.speaks g.D.Service.answers) M w reached
