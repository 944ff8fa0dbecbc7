use Rattle.std.proofs.Common.{rules, tests, ◌≡◌, ◌-◌, ◌∙◌, ℕ, ap, fold, nat_lt}
use Rattle.std.proofs.lemmas.Iterator.Consumers.{fold_from_yields_List}
use Rattle.std.proofs.lemmas.Iterator.{YieldsList-from_slice}
use Rattle.registry_server.specs.Pools.{read_count, read_together}
use Rattle.registry_server.specs.declared.pool.Place.{Place}
use Rattle.registry_server.proofs.PoolFacts.{room-of}
use Rattle.registry_server.proofs.pool.has_room.Goals as goal

pub returns : goal.returns
returns g c =
    let places = c.args.places.now in
    let left : c.fold-room.result ≡ fold (λ (room : ℕ) (p : Place g.row.S.Denot). room - read_count p) read_together places =
    fold_from_yields_List _ (λ (room : ℕ) (p : Place g.row.S.Denot). room - read_count p) read_together c.fold-room.result c.fold-room.ensures.ran (YieldsList-from_slice places cc) (λ a x b q k. search (rules, tests)) in
    ap (λ (room : ℕ). nat_lt 0 room) left ∙ room-of places
