use Rattle.std.proofs.Common.{◌≡◌}
use Rattle.registry_server.specs.Pools.{AreWoken}
use Rattle.registry_server.proofs.server.wake_all.Given as goal

abbrev pub invariant-loop-event : goal.invariant-loop-event
invariant-loop-event g l = record {
  keeps : AreWoken l.fn.pool.places.items l.pool.places.items;
  left : l.listener.left ≡ l.fn.listener.left;
}
