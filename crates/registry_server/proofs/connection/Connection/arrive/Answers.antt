use Rattle.std.proofs.Common.{◌≡◌, ◌∙◌, true, ap, rules, subst}
use Rattle.registry_service.specs.Turns.{spoken}
use Rattle.registry_server.specs.Connections.{IsInOrder, OpenConnection}
use Rattle.registry_server.specs.ConnectionStates.{Pending}
use Rattle.registry_server.specs.Phases.{takes_turns}
use Rattle.registry_server.specs.declared.phase.Stage.TheVariants.{Next}
use Rattle.registry_server.proofs.GroupFacts.{done-none}
use Rattle.registry_server.proofs.RemainderFacts.{little-answered, little-turned}
use Rattle.registry_server.proofs.VisitFacts.{visit-answered, visit-dropped, visit-received, visit-sent, visit-starved, visit-turned}
use Rattle.registry_server.proofs.connection.Connection.arrive.Goals as goal

pub returns-in-Ok-Moved-clause-ready : goal.returns-in-Ok-Moved-clause-ready
returns-in-Ok-Moved-clause-ready g c = λ is. record {
  turning = c.in-Ok-Moved.ensures.stage;
  visits = λ last M N r r2 answered.
      visit-answered g.S.Socket.received g.S.Socket.sent (spoken g.D.HttpService.speaks g.D.Service.answers) _ _ _ _ last _ _ _ _ c.in-Ok-Moved.ensures.kept c.in-Ok-Moved.ensures.may c.in-Ok-Moved.ensures.waits c.in-Ok-Moved.ensures.receiving c.in-Ok-Moved.ensures.idle c.in-Ok-Moved.ensures.turning answered;
  ends = λ done over. ap (λ (p : Pending). p.held) (c.in-Ok-Moved.ensures.ended over) ∙ done-none c.args.self.now.state done c.in-Ok-Moved.ensures.may;
  leaves = λ last rest before. little-answered g.S.Socket.received g.S.Socket.sent _ _ _ _ last c.in-Ok-Moved.ensures.kept c.in-Ok-Moved.ensures.waits rest;
}

pub returns-in-Next-clause-ready : goal.returns-in-Next-clause-ready
returns-in-Next-clause-ready g c = λ is.
    let at : c.args.self.now.phase.stage ≡ Next = search rules in
    let turning : takes_turns c.args.self.now.phase.stage ≡ true = ap takes_turns at in
    let order = subst (λ (old : OpenConnection g.row.S.Denot). IsInOrder old.phase.stage old.state) c.self.view_is c.self.invariant.0 in
    let may = order.turns turning in
    record {
      turning = turning;
      visits = λ last M N r r2 answered. visit-turned g.S.Socket.received g.S.Socket.sent (spoken g.D.HttpService.speaks g.D.Service.answers) _ _ _ last _ _ _ _ may answered;
      ends = λ done over. done-none c.args.self.now.state done may;
      leaves = λ last rest before. little-turned _ c.args.self.now last at may rest before;
    }

pub returns-in-Ok-Waits-clause-visits : goal.returns-in-Ok-Waits-clause-visits
returns-in-Ok-Waits-clause-visits g c = λ not readings.
    visit-received g.S.Socket.received g.S.Socket.sent (spoken g.D.HttpService.speaks g.D.Service.answers) _ _ _ _ _ _ c.in-Ok-Waits.ensures.kept c.in-Ok-Waits.ensures.may c.in-Ok-Waits.ensures.waits c.in-Ok-Waits.ensures.receiving c.in-Ok-Waits.ensures.idle

pub returns-in-Ok-Broken-clause-visits : goal.returns-in-Ok-Broken-clause-visits
returns-in-Ok-Broken-clause-visits g c = λ not readings.
    visit-received g.S.Socket.received g.S.Socket.sent (spoken g.D.HttpService.speaks g.D.Service.answers) _ _ _ _ _ _ c.in-Ok-Broken.ensures.kept c.in-Ok-Broken.ensures.may c.in-Ok-Broken.ensures.waits c.in-Ok-Broken.ensures.receiving c.in-Ok-Broken.ensures.idle

pub returns-in-Err-clause-visits : goal.returns-in-Err-clause-visits
returns-in-Err-clause-visits g c = λ not readings.
    rw c.starve.ensures.service
    (visit-starved g.S.Socket.received g.S.Socket.sent (spoken g.D.HttpService.speaks g.D.Service.answers) _ _ _ _ _ _ _ c.in-Err.ensures.lost c.in-Err.ensures.may c.in-Err.ensures.waits c.in-Err.ensures.receiving c.in-Err.ensures.idle c.in-Err.ensures.turning c.starve.ensures.starves)

pub returns-in-Sends-clause-visits : goal.returns-in-Sends-clause-visits
returns-in-Sends-clause-visits g c = λ not readings.
    visit-sent g.S.Socket.received g.S.Socket.sent (spoken g.D.HttpService.speaks g.D.Service.answers) _ _ _ _ _ _ c.send.ensures.sends

pub returns-in-Drains-clause-visits : goal.returns-in-Drains-clause-visits
returns-in-Drains-clause-visits g c = λ not readings.
    visit-dropped g.S.Socket.received g.S.Socket.sent (spoken g.D.HttpService.speaks g.D.Service.answers) _ _ _ _ _ _ c.drain.ensures.drops c.drain.ensures.all_sent c.drain.ensures.ended c.drain.ensures.stage
