use Rattle.std.proofs.Common.{◌∙◌, ◌&&◌, List, ap}
use Rattle.std.specs.List.{list_any}
use Rattle.registry_server.specs.Pools.{has_room, is_crowd, is_due}
use Rattle.registry_server.specs.declared.pool.Place.{Place}
use Rattle.registry_server.proofs.PoolFacts.{busy-at}
use Rattle.registry_server.proofs.pool.ConnectionPool.is_busy_in.Goals as goal

pub returns : goal.returns
returns g c =
    let crowd = c.is_crowd-is_crowd.result in
    let may = c.may_choose-may_choose.result in
    c.any_due.ensures
    ∙ ap (λ (l : List (Place g.row.S.Denot)). list_any (is_due c.args.commands_wait crowd may) l) c.deref-3.ensures.value
    ∙ busy-at c.args.commands_wait may crowd c.args.self.now.places.items
    (c.is_crowd-is_crowd.ensures ∙ ap (λ (l : List (Place g.row.S.Denot)). is_crowd l) c.deref.ensures.value)
    (c.may_choose-may_choose.ensures ∙ ap (λ (l : List (Place g.row.S.Denot)). crowd && has_room l) c.deref-2.ensures.value)
