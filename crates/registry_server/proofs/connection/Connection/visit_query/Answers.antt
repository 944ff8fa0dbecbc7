use Rattle.std.proofs.Common.{◌≡◌, subst}
use Rattle.registry_server.specs.Connections.{IsInOrder, OpenConnection}
use Rattle.registry_server.specs.declared.phase.Stage.TheVariants.{Idle}
use Rattle.registry_server.proofs.QueryFacts.{visit-query}
use Rattle.registry_server.proofs.connection.Connection.visit_query.Goals as goal

pub returns-in-Idle-clause-visits : goal.returns-in-Idle-clause-visits
returns-in-Idle-clause-visits g c = λ query. c.receive_first.ensures.visits _

pub returns-in_default-clause-visits : goal.returns-in_default-clause-visits
returns-in_default-clause-visits g c query =
    let order = subst (λ (old : OpenConnection g.row.S.Denot). IsInOrder old.phase.stage old.state) c.self.view_is c.self.invariant.0 in
    let begun = subst (λ (old : OpenConnection g.row.S.Denot). old.phase.stage ≡ Idle → ⊥) c.self.view_is c.in_default.not-Idle in
    visit-query g.S.Socket.received g.S.Socket.sent g.D.HttpService.speaks g.D.Service.answers g.met.D.HttpService.asks_queries _ _ _ _ _ _ _ _ order begun query c.visit.ensures.visits
