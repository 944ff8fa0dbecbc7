use Rattle.std.proofs.Common.{◌∙◌, ◌<◌, ◌≤◌, Some, true, length, ap, arith, slice_set}
use Rattle.registry_guests.specs.Guests.{OpenGuest}
use Rattle.registry_guests.specs.GuestPools.{new_at, slot}
use Rattle.registry_guests.proofs.GuestPoolFacts.{at-none, at-put}
use Rattle.registry_guests.proofs.guest_pool.GuestPool.add.Goals as goal

pub returns-then-number-len : goal.returns-then-number-len
returns-then-number-len g c =
    let slots = c.args.self.now.slots.items in
    let within : c.args.number < length slots = omega (arith, c.if-number-len.true, c.len.ensures) in
    ap (λ (x : OpenGuest g.row.S.Denot). slice_set slots c.args.number (slot (Some x) true)) c.new.ensures
    ∙ at-put slots c.args.number (new_at c.args.now c.args.socket) within

pub returns-else-number-len : goal.returns-else-number-len
returns-else-number-len g c =
    let beyond : length c.args.self.now.slots.items ≤ c.args.number = omega (arith, c.if-number-len.false, c.len.ensures) in
    at-none (λ _. new_at c.args.now c.args.socket) c.args.self.now.slots.items c.args.number beyond
