use Rattle.std.proofs.Common.{rules, tests, ◌≡◌, ◌-◌, ◌==◌, ◌∙◌, ℕ, ap, fold}
use Rattle.std.proofs.lemmas.Iterator.Consumers.{fold_from_yields_List}
use Rattle.std.proofs.lemmas.Iterator.{YieldsList-from_slice}
use Rattle.registry_server.specs.Pools.{room_at, room_limit}
use Rattle.registry_server.specs.declared.pool.Place.{Place}
use Rattle.registry_server.proofs.PoolFacts.{crowd-of}
use Rattle.registry_server.proofs.pool.is_crowd.Goals as goal

pub returns : goal.returns
returns g c =
    let places = c.args.places.now in
    let left : c.fold-room.result ≡ fold (λ (room : ℕ) (p : Place g.row.S.Denot). room - room_at p) room_limit places =
    fold_from_yields_List _ (λ (room : ℕ) (p : Place g.row.S.Denot). room - room_at p) room_limit c.fold-room.result c.fold-room.ensures.ran (YieldsList-from_slice places cc) (λ a x b q k. search (rules, tests)) in
    ap (λ (room : ℕ). room == 0) left ∙ crowd-of places
