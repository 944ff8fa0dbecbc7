use Rattle.std.proofs.Common.{length, refl, subst, sym}
use Rattle.registry_service.specs.Turns.{spoken}
use Rattle.registry_server.specs.Connections.{AnswersOnce, OpenConnection}
use Rattle.registry_server.specs.Groups.{SetsAside}
use Rattle.registry_server.proofs.connection.Connection.visit_or_set_aside.Goals as goal

pub returns-in-Done-clause-visits : goal.returns-in-Done-clause-visits
returns-in-Done-clause-visits g c = λ visit same. c.in-Done.ensures.visits (λ e. absurd (cc)) _

pub returns-in-Ready-clause-aside : goal.returns-in-Ready-clause-aside
returns-in-Ready-clause-aside g c = λ none.
    let (command, request, adds, first, spelled, place, small) = c.set_aside.ensures.aside c.if-set_aside.true in (
      command,
      request,
      adds,
      subst (λ (new : OpenConnection g.row.S.Denot). SetsAside g.S.Socket.received g.S.Socket.sent (spoken g.D.HttpService.speaks g.D.Service.answers) c.args.now (length c.args.buffer.now) c.args.self.now new c.args.number command request) (sym c.set_aside.ensures.stays)
          (record { ready = c.in-Ready.ensures.ready refl; first = first; small = small; spelled = spelled; place = place }),
    )

pub returns-in-Ready-2-clause-visits : goal.returns-in-Ready-2-clause-visits
returns-in-Ready-2-clause-visits g c = λ visit same.
    let answered = subst (λ (mid : OpenConnection g.row.S.Denot). AnswersOnce g.S.Socket.received g.S.Socket.sent (spoken g.D.HttpService.speaks g.D.Service.answers) c.args.now mid c.answer.new.self c.arrive.new.service c.answer.new.service (g.C.Clock.readings c.args.clock.now) (g.C.Clock.readings c.answer.new.clock)) c.set_aside.ensures.stays c.answer.ensures.answers in
    rw c.arrive.ensures.service at ((c.in-Ready-2.ensures.ready refl).visits c.answer.new.self _ _ _ _ answered).0
