use Rattle.std.proofs.Common.{◌≡◌, ◌∙◌, ◌≤◌, [], List, ℕ, length, ap, inl, refl, subst, sym, take}
use Rattle.std.specs.Io.KnownBytes.{append_known}
use Rattle.registry_server.specs.Connections.{OpenConnection, SendsDue, connected}
use Rattle.registry_server.specs.Phases.{entered}
use Rattle.registry_server.specs.declared.phase.Phase.{Phase}
use Rattle.registry_server.proofs.IdleFacts.{held-none}
use Rattle.registry_server.proofs.OrderFacts.{sent-in-order}
use Rattle.registry_server.proofs.PhaseFacts.{entered-same, moved-on, sent-front-at, sent-still}
use Rattle.registry_server.proofs.VisitFacts.{sent-front}
use Rattle.registry_server.proofs.connection.Connection.send.Goals as goal

-- the whole response was sent
pub invariant_of-self : goal.invariant_of-self
invariant_of-self g c =
    let none : c.sent.new.self.outgoing ≡ [] = sym c.outgoing-in-Moved.ensures ∙ held-none c.outgoing-in-Moved.result.now (sym c.is_empty.ensures ∙ c.if-is_empty.true) in
    (sent-in-order c.enter.new.self.stage c.sent.new.self (c.enter.ensures.stage ∙ c.next_stage.ensures.after) none, λ over. c.in-Moved.ensures.still_ended (c.self.invariant.1 over))

pub returns-then-is_empty-clause-sends : goal.returns-then-is_empty-clause-sends
returns-then-is_empty-clause-sends g c =
    let p = c.self.inside.state in
    let count = c.in-Moved.count in
    let known = g.S.Socket.sent c.self.inside.socket in
    let due = c.parts.ensures ∙ c.outgoing.ensures in
    let few : count ≤ length p.outgoing = subst (λ (l : List ℕ). count ≤ length l) due c.in-Moved.ensures.bound in
    subst (λ (old : OpenConnection g.row.S.Denot). SendsDue g.S.Socket.received g.S.Socket.sent c.args.now old c.go_on.new.self) c.self.view_is
    (record {
      put = take count p.outgoing;
      took = c.go_on.ensures.sent ∙ c.in-Moved.ensures.sent ∙ ap (λ (bytes : List ℕ). append_known known (take count bytes)) due;
      unread = c.go_on.ensures.received ∙ c.in-Moved.ensures.received;
      state = sent-front p c.go_on.new.self.state count (c.go_on.ensures.state ∙ c.sent.ensures);
      over = c.go_on.ensures.over;
      times = sent-front-at c.args.now count p.outgoing c.self.inside.phase c.go_on.new.self.phase few (moved-on c.args.now c.next_stage.result c.pay.new.self _ c.enter.new.self c.go_on.new.self.phase c.pay.ensures c.enter.ensures.entered c.enter.ensures.stage c.go_on.ensures.phase);
    })

pub returns-else-is_empty-clause-sends : goal.returns-else-is_empty-clause-sends
returns-else-is_empty-clause-sends g c =
    let p = c.self.inside.state in
    let count = c.in-Moved.count in
    let known = g.S.Socket.sent c.self.inside.socket in
    let due = c.parts.ensures ∙ c.outgoing.ensures in
    let few : count ≤ length p.outgoing = subst (λ (l : List ℕ). count ≤ length l) due c.in-Moved.ensures.bound in
    subst (λ (old : OpenConnection g.row.S.Denot). SendsDue g.S.Socket.received g.S.Socket.sent c.args.now old (connected c.send.new.self c.sent.new.self c.pay.new.self c.self.inside.is_over)) c.self.view_is
    (record {
      put = take count p.outgoing;
      took = c.in-Moved.ensures.sent ∙ ap (λ (bytes : List ℕ). append_known known (take count bytes)) due;
      unread = c.in-Moved.ensures.received;
      state = sent-front p c.sent.new.self count c.sent.ensures;
      over = refl;
      times = sent-front-at c.args.now count p.outgoing c.self.inside.phase c.pay.new.self few (entered-same c.pay.new.self c.args.now ∙ ap (λ (q : Phase). entered q c.pay.new.self.stage c.args.now) c.pay.ensures);
    })

pub returns-in-Waits-clause-sends : goal.returns-in-Waits-clause-sends
returns-in-Waits-clause-sends g c =
    subst (λ (old : OpenConnection g.row.S.Denot). SendsDue g.S.Socket.received g.S.Socket.sent c.args.now old (connected c.send.new.self c.self.inside.state c.self.inside.phase c.self.inside.is_over)) c.self.view_is
    (record {
      put = [];
      took = c.in-Waits.ensures.sent;
      unread = c.in-Waits.ensures.received;
      state = refl;
      over = refl;
      times = sent-still c.args.now c.self.inside.phase;
    })

pub returns-in-Ended-clause-sends : goal.returns-in-Ended-clause-sends
returns-in-Ended-clause-sends g c =
    subst (λ (old : OpenConnection g.row.S.Denot). SendsDue g.S.Socket.received g.S.Socket.sent c.args.now old (connected c.send.new.self c.self.inside.state c.self.inside.phase c.self.inside.is_over)) c.self.view_is
    (record {
      put = [];
      took = c.in-Ended.ensures.sent;
      unread = c.in-Ended.ensures.received;
      state = refl;
      over = refl;
      times = sent-still c.args.now c.self.inside.phase;
    })

pub returns-in-Broken-clause-sends : goal.returns-in-Broken-clause-sends
returns-in-Broken-clause-sends g c =
    subst (λ (old : OpenConnection g.row.S.Denot). SendsDue g.S.Socket.received g.S.Socket.sent c.args.now old (connected c.send.new.self c.self.inside.state c.self.inside.phase c.self.inside.is_over)) c.self.view_is
    (record {
      put = [];
      took = c.in-Broken.ensures.sent;
      unread = c.in-Broken.ensures.received;
      state = refl;
      over = refl;
      times = sent-still c.args.now c.self.inside.phase;
    })

pub returns-then-is_empty-clause-waits : goal.returns-then-is_empty-clause-waits
returns-then-is_empty-clause-waits g c = λ rests. absurd (c.go_on.ensures.rests rests)

pub returns-then-is_empty-clause-over : goal.returns-then-is_empty-clause-over
returns-then-is_empty-clause-over g c = λ over. inl (c.go_on.ensures.lost over)

pub returns-in-Broken-clause-over : goal.returns-in-Broken-clause-over
returns-in-Broken-clause-over g c = λ over. inl (c.in-Broken.ensures.broken refl)
