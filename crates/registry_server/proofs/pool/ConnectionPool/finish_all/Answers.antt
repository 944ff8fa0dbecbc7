use Rattle.std.proofs.Common.{◌≡◌, ◌++◌, ◌<◌, ◌≤◌, ◌+◌, ◌∙◌, List, ap, get_or, take, drop, map, slice_set, length, subst, sym, arith}
use Rattle.std.proofs.lemmas.List.Edits.{map_over_more}
use Rattle.registry_server.specs.Pools.{finishing_at}
use Rattle.registry_server.specs.declared.pool.Place.{Place}
use Rattle.registry_server.proofs.PoolFacts.{all-mapped}
use Rattle.registry_server.proofs.pool.ConnectionPool.finish_all.Goals as goal

pub loop-place-init : goal.loop-place-init
loop-place-init g c = c.deref_mut-place-items.ensures.value

pub loop-place-preserved : goal.loop-place-preserved
loop-place-preserved g c =
    let old = c.args.self.now.places.items in
    let items = c.loop-place.place-items in
    let i = c.loop-place.place-index in
    let here = get_or items i c.place-item.result in
    let within : i < length old = grind (arith, c.loop-place-test.true, c.loop-place.auto.place-items, c.deref_mut-place-items.ensures.value, c.deref_mut-place-items.ensures.len) in
    subst (λ (q : Place g.row.S.Denot). slice_set items i q ≡ map finishing_at (take (i + 1) old) ++ drop (i + 1) old) (sym c.finish.ensures)
    (map_over_more finishing_at old items i here within c.loop-place.invariant (ap (λ (d : Place g.row.S.Denot). get_or items i d) c.place-item.is))

pub returns : goal.returns
returns g c =
    let old = c.args.self.now.places.items in
    let same = ap (λ (l : List (Place g.row.S.Denot)). length l) c.deref_mut-place-items.ensures.value in
    let past : length old ≤ c.loop-place.place-index = omega (arith, same, c.loop-place-test.false) in
    all-mapped finishing_at old c.loop-place.place-items c.loop-place.place-index c.args.self.now.places.len (c.loop-place.auto.place-items ∙ same) past (sym c.deref_mut-place-items.ensures.len ∙ same) c.loop-place.invariant
