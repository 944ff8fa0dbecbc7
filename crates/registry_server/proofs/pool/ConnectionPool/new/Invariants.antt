use Rattle.std.proofs.Common.{◌≡◌, replicate}
use Rattle.registry_server.specs.Pools.{free}
use Rattle.registry_server.proofs.pool.ConnectionPool.new.Given as goal

abbrev pub invariant-loop : goal.invariant-loop
invariant-loop g l = l.places.items ≡ replicate l.counter free
