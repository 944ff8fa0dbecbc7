use Rattle.std.proofs.Common.{◌≡◌, ◌<◌, ℕ, ap, get_or, length, subst, arith}
use Rattle.registry_guests.specs.declared.guest_pool.GuestSlot.{GuestSlot}
use Rattle.registry_guests.specs.GuestPools.{VisitsAt}
use Rattle.registry_guests.proofs.GuestPoolFacts.{rest-step, visits-step}
use Rattle.registry_guests.proofs.guest_pool.GuestPool.visit_all.Goals as goal

pub loop-slot-preserved : goal.loop-slot-preserved
loop-slot-preserved g c =
    let socket = g.S.Socket in
    let old = c.args.self.now.slots.items in
    let items = c.loop-slot.slot-items in
    let i = c.loop-slot.slot-index in
    let here = get_or items i c.slot-item.result in
    let within : i < length old = grind (arith, c.loop-slot-test.true, c.loop-slot.auto.slot-items, c.deref_mut-slot-items.ensures.value, c.deref_mut-slot-items.ensures.len) in
    let len : length items ≡ length old = grind (arith, c.loop-slot-test.true, c.loop-slot.auto.slot-items, c.deref_mut-slot-items.ensures.value, c.deref_mut-slot-items.ensures.len) in
    let one = subst (λ (most : ℕ). VisitsAt socket.received socket.sent socket.has_none socket.is_full socket.is_ended socket.is_broken g.D.Service.answers g.D.Service.over most here c.visit.new.self c.loop-slot.service c.visit.new.service (g.C.Clock.readings c.loop-slot.clock) (g.C.Clock.readings c.visit.new.clock)) c.loop-slot.auto.buffer c.visit.ensures in
    record {
      visited = visits-step socket.received socket.sent socket.has_none socket.is_full socket.is_ended socket.is_broken g.D.Service.answers g.D.Service.over (length c.args.buffer.now) old items i here _ _ _ _ _ _ _ within len
          c.loop-slot.invariant.rest (ap (λ (d : GuestSlot g.row.S.Denot). get_or items i d) c.slot-item.is) c.loop-slot.invariant.visited one;
      rest = rest-step old items i _ c.loop-slot.invariant.rest;
    }
