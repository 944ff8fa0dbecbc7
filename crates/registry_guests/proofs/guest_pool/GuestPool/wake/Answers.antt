use Rattle.std.proofs.Common.{◌<◌, ◌≤◌, length, arith}
use Rattle.registry_guests.specs.GuestPools.{woken}
use Rattle.registry_guests.proofs.GuestPoolFacts.{at-none, at-set}
use Rattle.registry_guests.proofs.guest_pool.GuestPool.wake.Goals as goal

pub returns-then-number-len : goal.returns-then-number-len
returns-then-number-len g c =
    let within : c.args.number < length c.args.self.now.slots.items = omega (arith, c.if-number-len.true, c.len.ensures) in
    at-set woken c.args.self.now.slots.items c.args.number c.index_mut.result.now within c.index_mut.ensures.value

pub returns-else-number-len : goal.returns-else-number-len
returns-else-number-len g c =
    let beyond : length c.args.self.now.slots.items ≤ c.args.number = omega (arith, c.if-number-len.false, c.len.ensures) in
    at-none woken c.args.self.now.slots.items c.args.number beyond
