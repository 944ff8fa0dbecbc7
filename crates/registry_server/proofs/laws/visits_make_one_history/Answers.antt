use Rattle.registry_service.specs.Turns.{spoken}
use Rattle.registry_server.proofs.SocketFacts.{finishes, visits-lead}
use Rattle.registry_server.proofs.laws.visits_make_one_history.Goals as goal

pub returns-clause-visits : goal.returns-clause-visits
returns-clause-visits g c = visits-lead g.S.Socket.received g.S.Socket.sent (spoken g.D.HttpService.speaks g.D.Service.answers)

pub returns-clause-finishes : goal.returns-clause-finishes
returns-clause-finishes g c = finishes g.row.D.Denot g.S.Socket.received g.S.Socket.sent
