use Rattle.std.proofs.Common.{◌≡◌, ◌++◌, ◌<◌, ◌+◌, ap, get_or, take, drop, map, slice_set, length, subst, sym, arith}
use Rattle.std.proofs.lemmas.List.Edits.{map_over_more}
use Rattle.registry_guests.specs.GuestPools.{kept_at}
use Rattle.registry_guests.specs.declared.guest_pool.GuestSlot.{GuestSlot}
use Rattle.registry_guests.proofs.guest_pool.GuestPool.end_late.Goals as goal

pub loop-slot-preserved : goal.loop-slot-preserved
loop-slot-preserved g c =
    let old = c.args.self.now.slots.items in
    let items = c.loop-slot.slot-items in
    let i = c.loop-slot.slot-index in
    let here = get_or items i c.slot-item.result in
    let within : i < length old = grind (arith, c.loop-slot-test.true, c.loop-slot.auto.slot-items, c.deref_mut-slot-items.ensures.value, c.deref_mut-slot-items.ensures.len) in
    subst (λ (q : GuestSlot g.row.S.Denot). slice_set items i q ≡ map (kept_at c.args.now) (take (i + 1) old) ++ drop (i + 1) old) (sym c.end_late.ensures)
    (map_over_more (kept_at c.args.now) old items i here within c.loop-slot.invariant (ap (λ (d : GuestSlot g.row.S.Denot). get_or items i d) c.slot-item.is))
