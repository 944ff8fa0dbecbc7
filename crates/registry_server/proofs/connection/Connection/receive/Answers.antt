use Rattle.std.proofs.Common.{◌≡◌, ◌<◌, ◌∙◌, [], true, false, inl, inr, refl, ap, arith, length, rules, take, subst}
use Rattle.std.proofs.lemmas.Bool.Decides.{nat_tests}
use Rattle.std.proofs.lemmas.List.{length-take}
use Rattle.std.specs.Io.KnownBytes.{append_known}
use Rattle.registry_names.proofs.ByteStreamFacts.{on_err}
use Rattle.registry_server.specs.Connections.{OpenConnection, Receives, connected}
use Rattle.registry_server.specs.Phases.{takes_turns}
use Rattle.registry_server.specs.Sockets.{moved}
use Rattle.registry_server.proofs.OrderFacts.{came-in-order}
use Rattle.registry_server.proofs.VisitFacts.{few-taken, never, none-added, receives-none}
use Rattle.registry_server.proofs.connection.Connection.receive.Goals as goal

pub returns-in_err-came-in-Moved-clause-lost : goal.returns-in_err-came-in-Moved-clause-lost
returns-in_err-came-in-Moved-clause-lost g c =
    on_err _
    (subst (λ (old : OpenConnection g.row.S.Denot). Receives g.S.Socket.received g.S.Socket.sent c.args.now (length c.args.buffer.now) old (connected c.receive-flow.new.self c.came.new.self c.self.inside.phase c.self.inside.is_over) false) c.self.view_is
    (record {
      got = take c.in-Moved.count c.receive-flow.new.buffer;
      few = few-taken c.in-Moved.count c.receive-flow.new.buffer c.args.buffer.now c.receive-flow.auto.buffer;
      gave = c.in-Moved.ensures.received;
      unsent = c.in-Moved.ensures.sent;
      state = c.in_err-came-in-Moved.ensures.err;
      none = λ over. never c.self.inside.is_over c.if-self.false over;
      over = λ over. over;
      times = inl refl;
    }))

pub returns-in_ok-came-in-Moved-clause-kept : goal.returns-in_ok-came-in-Moved-clause-kept
returns-in_ok-came-in-Moved-clause-kept g c =
    subst (λ (old : OpenConnection g.row.S.Denot). Receives g.S.Socket.received g.S.Socket.sent c.args.now (length c.args.buffer.now) old (connected c.receive-flow.new.self c.came.new.self c.enter.new.self c.self.inside.is_over) true) c.self.view_is
    (record {
      got = take c.in-Moved.count c.receive-flow.new.buffer;
      few = few-taken c.in-Moved.count c.receive-flow.new.buffer c.args.buffer.now c.receive-flow.auto.buffer;
      gave = c.in-Moved.ensures.received;
      unsent = c.in-Moved.ensures.sent;
      state = c.in_ok-came-in-Moved.ensures.ok;
      none = λ over. never c.self.inside.is_over c.if-self.false over;
      over = λ over. over;
      times = inr c.enter.ensures.entered;
    })

-- bytes came
pub invariant_of-self-in_default-1 : goal.invariant_of-self-in_default-1
invariant_of-self-in_default-1 g c =
    let p = c.self.inside.state in
    let count = c.in-Moved.count in
    let bytes = take count c.receive-flow.new.buffer in
    let turning : takes_turns c.self.inside.phase.stage ≡ true = ap (λ (x : OpenConnection g.row.S.Denot). takes_turns x.phase.stage) c.self.view_is ∙ c.requires.turns in
    let some : 0 < length bytes = grind (arith, nat_tests, c.in-Moved.count-is, c.in-Moved.ensures.bound, length-take count c.receive-flow.new.buffer) in
    (came-in-order c.enter.new.self.stage p c.came.new.self bytes c.enter.ensures.stage (c.self.invariant.0.turns turning) c.in_ok-came-in-Moved.ensures.ok some, λ over. never c.self.inside.is_over c.if-self.false over)

pub returns-then-self-clause-kept : goal.returns-then-self-clause-kept
returns-then-self-clause-kept g c =
    let old = c.args.self.now in
    receives-none g.S.Socket.received g.S.Socket.sent c.args.now (length c.args.buffer.now) old old.socket old.is_over (none-added (g.S.Socket.received old.socket)) refl (λ was. was)

pub returns-in-Ended-clause-kept : goal.returns-in-Ended-clause-kept
returns-in-Ended-clause-kept g c =
    subst (λ (old : OpenConnection g.row.S.Denot). Receives g.S.Socket.received g.S.Socket.sent c.args.now (length c.args.buffer.now) old (connected c.receive-flow.new.self c.self.inside.state c.self.inside.phase true) true) c.self.view_is
    (receives-none g.S.Socket.received g.S.Socket.sent c.args.now (length c.args.buffer.now) (connected c.self.inside.socket c.self.inside.state c.self.inside.phase c.self.inside.is_over) c.receive-flow.new.self true
    c.in-Ended.ensures.received c.in-Ended.ensures.sent (λ was. refl))

pub returns-else-self-clause-kept : goal.returns-else-self-clause-kept
returns-else-self-clause-kept g c =
    let nothing : moved c.receive-flow.result c.receive-flow.new.buffer ≡ [] = search rules in
    subst (λ (old : OpenConnection g.row.S.Denot). Receives g.S.Socket.received g.S.Socket.sent c.args.now (length c.args.buffer.now) old (connected c.receive-flow.new.self c.self.inside.state c.self.inside.phase c.self.inside.is_over) true) c.self.view_is
    (receives-none g.S.Socket.received g.S.Socket.sent c.args.now (length c.args.buffer.now) (connected c.self.inside.socket c.self.inside.state c.self.inside.phase c.self.inside.is_over) c.receive-flow.new.self c.self.inside.is_over
    (c.receive-flow.ensures.received ∙ ap (append_known (g.S.Socket.received c.self.inside.socket)) nothing) c.receive-flow.ensures.sent (λ was. was))

pub returns-else-self-2-clause-kept : goal.returns-else-self-2-clause-kept
returns-else-self-2-clause-kept g c =
    let nothing : moved c.receive-flow.result c.receive-flow.new.buffer ≡ [] = search rules in
    subst (λ (old : OpenConnection g.row.S.Denot). Receives g.S.Socket.received g.S.Socket.sent c.args.now (length c.args.buffer.now) old (connected c.receive-flow.new.self c.self.inside.state c.self.inside.phase c.self.inside.is_over) true) c.self.view_is
    (receives-none g.S.Socket.received g.S.Socket.sent c.args.now (length c.args.buffer.now) (connected c.self.inside.socket c.self.inside.state c.self.inside.phase c.self.inside.is_over) c.receive-flow.new.self c.self.inside.is_over
    (c.receive-flow.ensures.received ∙ ap (append_known (g.S.Socket.received c.self.inside.socket)) nothing) c.receive-flow.ensures.sent (λ was. was))
