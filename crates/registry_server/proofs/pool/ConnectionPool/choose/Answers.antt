use Rattle.std.proofs.Common.{rules, ◌≡◌, ℕ, List, None, Option, Some, length, subst}
use Rattle.registry_server.specs.Pools.{IsFirstOfEarliest, waiting_times}
use Rattle.registry_server.specs.declared.pool.Place.{Place}
use Rattle.registry_server.proofs.PoolFacts.{chooses-next, chooses-none}
use Rattle.registry_server.proofs.pool.ConnectionPool.choose.Goals as goal

pub returns-in-Some : goal.returns-in-Some
returns-in-Some g c =
    let places = c.args.self.now.places.items in
    let same : c.deref.result.now ≡ places = search rules in
    chooses-next places c.in-Some.number c.index_mut.result.now
    (subst (λ (l : List (Place g.row.S.Denot)). IsFirstOfEarliest (waiting_times l) (length l) (Some c.in-Some.number)) same c.in-Some.ensures)
    c.index_mut.ensures.value

pub returns-in_default : goal.returns-in_default
returns-in_default g c =
    let places = c.args.self.now.places.items in
    let same : c.deref.result.now ≡ places = search rules in
    let none : c.first_waiting.result ≡ None = search rules in
    chooses-none places (subst (λ (r : Option ℕ). IsFirstOfEarliest (waiting_times places) (length places) r) none
    (subst (λ (l : List (Place g.row.S.Denot)). IsFirstOfEarliest (waiting_times l) (length l) c.first_waiting.result) same c.first_waiting.ensures))
