use Rattle.registry_server.proofs.SocketFacts.{visits-lead}
use Rattle.registry_guests.proofs.BesideFacts.{go-on, guests-follow, make-one, visits-follow}
use Rattle.registry_guests.specs.Beside.{beside_guests}
use Rattle.registry_guests.proofs.laws.guests_share_one_history.Goals as goal

pub returns-clause-guests : goal.returns-clause-guests
returns-clause-guests g c = go-on g.D.Service.answers

pub returns-clause-answered : goal.returns-clause-answered
returns-clause-answered g c = guests-follow g.S.Socket.received g.S.Socket.sent g.D.Service.answers g.S.Socket.has_none

pub returns-clause-follows : goal.returns-clause-follows
returns-clause-follows g c = visits-follow g.S.Socket.received g.S.Socket.sent g.D.HttpService.speaks g.D.Service.answers

pub returns-clause-leads : goal.returns-clause-leads
returns-clause-leads g c = visits-lead g.S.Socket.received g.S.Socket.sent (beside_guests g.D.HttpService.speaks g.D.Service.answers)

pub returns-clause-one : goal.returns-clause-one
returns-clause-one g c = make-one g.D.HttpService.speaks g.D.Service.answers
