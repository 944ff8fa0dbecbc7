use Rattle.std.proofs.Common.{◌≡◌, replicate}
use Rattle.registry_guests.specs.GuestPools.{free}
use Rattle.registry_guests.proofs.guest_pool.GuestPool.new.Given as goal

abbrev pub invariant-loop : goal.invariant-loop
invariant-loop g l = l.slots.items ≡ replicate l.counter free
