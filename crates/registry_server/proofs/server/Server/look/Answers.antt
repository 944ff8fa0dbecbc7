use Rattle.registry_server.proofs.WokenFacts.{woken-same}
use Rattle.registry_server.proofs.server.Server.look.Goals as goal

pub returns-in_err-poll-clause-keeps : goal.returns-in_err-poll-clause-keeps
returns-in_err-poll-clause-keeps g c = woken-same c.args.self.now.pool.places.items
