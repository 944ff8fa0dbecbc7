use Rattle.registry_server.specs.Pools.{LetsIn}
use Rattle.registry_server.proofs.server.Server.admit.Given as goal

abbrev pub invariant-loop : goal.invariant-loop
invariant-loop g l = LetsIn l.now l.fn.self.pool.places.items l.self.pool.places.items
