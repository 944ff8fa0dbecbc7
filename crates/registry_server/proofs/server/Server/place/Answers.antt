use Rattle.registry_server.proofs.WokenFacts.{woken-same}
use Rattle.registry_server.proofs.server.Server.place.Goals as goal

pub returns-then-not-is_full-clause-keeps : goal.returns-then-not-is_full-clause-keeps
returns-then-not-is_full-clause-keeps g c = woken-same c.args.self.now.pool.places.items
