use Rattle.std.proofs.Common.{◌≡◌, ◌++◌, take, drop, map}
use Rattle.registry_guests.specs.GuestPools.{kept_at}
use Rattle.registry_guests.proofs.guest_pool.GuestPool.end_late.Given as goal

abbrev pub invariant-loop-slot : goal.invariant-loop-slot
invariant-loop-slot g l =
    let old = l.fn.self.slots.items in
    l.slot-items ≡ map (kept_at l.now) (take l.slot-index old) ++ drop l.slot-index old
