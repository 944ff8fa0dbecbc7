use Rattle.std.proofs.Common.{◌∙◌, List, ℕ, inl, inr, length, refl, rules, subst}
use Rattle.registry_guests.specs.Guests.{AnswersMessage, OpenGuest, Visits, guest_at}
use Rattle.registry_guests.proofs.GuestFacts.{more-held, visits-begun}
use Rattle.registry_guests.proofs.guest.Guest.visit.Goals as goal

pub returns-in-Some-answer-clause-visits : goal.returns-in-Some-answer-clause-visits
returns-in-Some-answer-clause-visits g c =
    let inside = c.self.inside in
    let answers = g.D.Service.answers in
    let old = guest_at inside.socket inside.held.items inside.unsent inside.until in
    let output = c.in-Some-answer.output in
    let held = c.in-Ok-Waits.ensures.none_yet (search rules) in
    let answered = subst (λ (bytes : List ℕ). AnswersMessage answers bytes output c.args.service.now c.answer.new.service (g.C.Clock.readings c.args.clock.now) (g.C.Clock.readings c.answer.new.clock))
    (c.deref.ensures.value ∙ held) c.in-Some-answer.ensures.some in
    let due = inl (record { waits = c.in-Ok-Waits.ensures.waits (search rules); all = held; answered = answered }) in
    let sends = c.begin.ensures.sends in
    subst (λ (x : OpenGuest g.row.S.Denot). Visits g.S.Socket.received g.S.Socket.sent g.S.Socket.has_none answers (length c.args.buffer.now) x c.begin.new.self c.args.service.now c.answer.new.service (g.C.Clock.readings c.args.clock.now) (g.C.Clock.readings c.answer.new.clock)) c.self.view_is
    (visits-begun g.S.Socket.received g.S.Socket.sent g.S.Socket.has_none answers (length c.args.buffer.now) old c.begin.new.self _ _ _ _ c.receive.new.socket _ output sends.0
    c.in-None.is c.in-Ok-Waits.ensures.kept due sends.1 sends.2 (c.begin.ensures.held ∙ held) c.begin.ensures.until)

pub returns-in-Err-clause-visits : goal.returns-in-Err-clause-visits
returns-in-Err-clause-visits g c =
    let inside = c.self.inside in
    let answers = g.D.Service.answers in
    let old = guest_at inside.socket inside.held.items inside.unsent inside.until in
    let lost = c.in-Err.ensures.lost in
    let due = inr (more-held inside.held.items lost.0 lost.1, (c.of.ensures, refl, refl)) in
    let sends = c.begin-in-Err.ensures.sends in
    subst (λ (x : OpenGuest g.row.S.Denot). Visits g.S.Socket.received g.S.Socket.sent g.S.Socket.has_none answers (length c.args.buffer.now) x c.begin-in-Err.new.self c.args.service.now c.args.service.now (g.C.Clock.readings c.args.clock.now) (g.C.Clock.readings c.args.clock.now)) c.self.view_is
    (visits-begun g.S.Socket.received g.S.Socket.sent g.S.Socket.has_none answers (length c.args.buffer.now) old c.begin-in-Err.new.self _ _ _ _ c.receive.new.socket _ _ sends.0
    c.in-None.is lost.2 due sends.1 sends.2 (c.begin-in-Err.ensures.held ∙ c.in-Err.ensures.stays) c.begin-in-Err.ensures.until)
