use Rattle.registry_server.proofs.QueryFacts.{holds-ask-queries, queries-are-answers}
use Rattle.registry_server.proofs.laws.held_servers_ask_queries.Goals as goal

pub returns-clause-queried : goal.returns-clause-queried
returns-clause-queried g c = holds-ask-queries g.S.Socket.received g.S.Socket.sent g.S.Socket.has_none g.S.Socket.is_full g.S.Socket.has_more g.S.Socket.is_ended g.S.Socket.is_broken g.D.HttpService.speaks g.D.Service.answers g.D.Service.over

pub returns-clause-rounds : goal.returns-clause-rounds
returns-clause-rounds g c = queries-are-answers g.S.Socket.received g.S.Socket.sent g.S.Socket.has_none g.S.Socket.is_full g.S.Socket.has_more g.S.Socket.is_ended g.S.Socket.is_broken g.D.HttpService.speaks g.D.Service.answers g.D.Service.over
