use Rattle.registry_server.proofs.RoundFacts.{queries-asked}
use Rattle.registry_server.proofs.server.Server.serve.Goals as goal

pub returns-then-holds-clause-asks : goal.returns-then-holds-clause-asks
returns-then-holds-clause-asks g c = queries-asked _ _ _ _ _ _ _ _ _ _ _ c.args.now _ _ _ c.args.service.now c.serve_queries.new.service _ _ c.args.guests.now c.serve_queries.ensures.serves
