use Rattle.std.proofs.Common.{◌≡◌, take, drop, length}
use Rattle.registry_guests.specs.GuestPools.{VisitsAll}
use Rattle.registry_guests.proofs.guest_pool.GuestPool.visit_all.Given as goal

abbrev pub invariant-loop-slot : goal.invariant-loop-slot
invariant-loop-slot g l =
    let socket = g.S.Socket in
    let old = l.fn.self.slots.items in
    record {
      visited : VisitsAll socket.received socket.sent socket.has_none socket.is_full socket.is_ended socket.is_broken g.D.Service.answers g.D.Service.over (length l.fn.buffer) (take l.slot-index old) (take l.slot-index l.slot-items) l.fn.service l.service (g.C.Clock.readings l.fn.clock) (g.C.Clock.readings l.clock);
      rest : drop l.slot-index l.slot-items ≡ drop l.slot-index old;
    }
