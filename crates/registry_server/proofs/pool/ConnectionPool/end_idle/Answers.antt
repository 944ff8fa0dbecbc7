use Rattle.std.proofs.Common.{rules, ◌≡◌, List, None, Some, length, subst}
use Rattle.registry_server.specs.Pools.{IsFirstOfEarliest, idle_times}
use Rattle.registry_server.specs.declared.pool.Place.{Place}
use Rattle.registry_server.proofs.PoolFacts.{ends-idle, ends-none}
use Rattle.registry_server.proofs.pool.ConnectionPool.end_idle.Goals as goal

pub returns-in-Some : goal.returns-in-Some
returns-in-Some g c =
    let places = c.args.self.now.places.items in
    let same : c.deref.result.now ≡ places = search rules in
    ends-idle places c.in-Some.number c.index_mut.result.now
    (subst (λ (l : List (Place g.row.S.Denot)). IsFirstOfEarliest (idle_times l) (length l) (Some c.in-Some.number)) same c.in-Some.ensures)
    c.index_mut.ensures.value

pub returns-in-None : goal.returns-in-None
returns-in-None g c =
    let places = c.args.self.now.places.items in
    let same : c.deref.result.now ≡ places = search rules in
    ends-none places (subst (λ (l : List (Place g.row.S.Denot)). IsFirstOfEarliest (idle_times l) (length l) None) same c.in-None.ensures)
