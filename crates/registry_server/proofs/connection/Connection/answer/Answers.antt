use Rattle.std.proofs.Common.{◌∙◌, length, ap, inl, refl, subst}
use Rattle.std.specs.Io.KnownBytes.{append_known}
use Rattle.registry_service.specs.Turns.{spoken}
use Rattle.registry_server.specs.Phases.{SentAt, takes_turns}
use Rattle.registry_server.specs.declared.phase.Phase.{Phase}
use Rattle.registry_server.proofs.VisitFacts.{answered-looked, answered-none, waits-for-more}
use Rattle.registry_server.proofs.connection.Connection.answer.Goals as goal

pub returns-in-Waits-clause-answers : goal.returns-in-Waits-clause-answers
returns-in-Waits-clause-answers g c =
    answered-looked g.S.Socket.received g.S.Socket.sent (spoken g.D.HttpService.speaks g.D.Service.answers) _ _ _ _ _ _ _ _
    c.in-Waits.ensures.does.0 (c.in-Waits.ensures.looked (λ same. absurd (cc))) c.take_turn.ensures.socket c.take_turn.ensures.over
    c.look.ensures.state c.look.ensures.phase c.look.ensures.sent c.look.ensures.received c.look.ensures.over

pub returns-in-Closed-clause-answers : goal.returns-in-Closed-clause-answers
returns-in-Closed-clause-answers g c =
    answered-none g.S.Socket.received g.S.Socket.sent (spoken g.D.HttpService.speaks g.D.Service.answers) _ _ _ _ _ _ _
    c.in-Closed.ensures.does.0 (c.in-Closed.ensures.looked (λ same. absurd (cc))) (ap g.S.Socket.sent c.take_turn.ensures.socket) (ap g.S.Socket.received c.take_turn.ensures.socket) c.take_turn.ensures.over

pub returns-in-Answered-clause-answers : goal.returns-in-Answered-clause-answers
returns-in-Answered-clause-answers g c =
    let s = c.send.ensures.sends in
    record {
      due = c.take_turn.new.self.state;
      put = s.put;
      turns = inl (
        record { may = c.take_turn.ensures.may; takes = c.in-Answered.ensures.does },
        subst (λ (p : Phase). SentAt c.args.now (length s.put) p c.send.new.self.phase) (c.in-Answered.ensures.sends refl) s.times,
      );
      took = s.took ∙ ap (λ (x : g.row.S.Denot). append_known (g.S.Socket.sent x) s.put) c.take_turn.ensures.socket;
      unread = s.unread ∙ ap g.S.Socket.received c.take_turn.ensures.socket;
      sends = s.state;
      over = s.over ∙ c.take_turn.ensures.over;
    }

pub returns-in-Waits-clause-waits : goal.returns-in-Waits-clause-waits
returns-in-Waits-clause-waits g c rests =
    waits-for-more _ _ _ (ap (λ (p : Phase). takes_turns p.stage) c.look.ensures.phase ∙ c.in-Waits.ensures.turning refl) (c.look.ensures.waits rests)

pub returns-in-Answered-clause-rests : goal.returns-in-Answered-clause-rests
returns-in-Answered-clause-rests g c = c.send.ensures.rests

pub returns-in-Answered-clause-waits : goal.returns-in-Answered-clause-waits
returns-in-Answered-clause-waits g c = c.send.ensures.waits

pub returns-in-Answered-clause-over : goal.returns-in-Answered-clause-over
returns-in-Answered-clause-over g c = c.send.ensures.over

pub returns-in-Waits-clause-over : goal.returns-in-Waits-clause-over
returns-in-Waits-clause-over g c = λ over. inl (c.look.ensures.lost over)

pub returns-in-Closed-clause-rest : goal.returns-in-Closed-clause-rest
returns-in-Closed-clause-rest g c = λ goes. absurd (goes refl)
