use Rattle.std.proofs.Common.{refl, subst, sym}
use Rattle.registry_server.specs.Pools.{AreWoken}
use Rattle.registry_server.proofs.WokenFacts.{woken-more, woken-same}
use Rattle.registry_server.proofs.server.wake_all.Goals as goal

pub loop-event-init : goal.loop-event-init
loop-event-init g c = record { keeps = woken-same c.args.pool.now.places.items; left = refl }

pub loop-event-preserved-then-token-lt-FIRST_GUEST : goal.loop-event-preserved-then-token-lt-FIRST_GUEST
loop-event-preserved-then-token-lt-FIRST_GUEST g c =
    let old = c.args.pool.now.places.items in
    record {
      keeps = subst (AreWoken old) (sym c.wake.ensures) (woken-more old c.loop-event.pool.places.items c.token-token.result.0 c.loop-event.invariant.keeps);
      left = c.loop-event.invariant.left;
    }
