use Rattle.std.proofs.Common.{arith, length, refl, subst, true}
use Rattle.registry_server.specs.Connections.{Drops, OpenConnection, connected}
use Rattle.registry_server.specs.declared.socket.Flow.TheVariants.{Waits}
use Rattle.registry_server.proofs.VisitFacts.{drops-moved, few-moved, none-added}
use Rattle.registry_server.proofs.connection.Connection.drain.Goals as goal

pub returns-then-self-clause-drops : goal.returns-then-self-clause-drops
returns-then-self-clause-drops g c =
    drops-moved g.S.Socket.received g.S.Socket.sent (length c.args.buffer.now) c.args.self.now c.args.self.now.socket c.args.self.now.is_over Waits c.args.buffer.now (omega arith) (none-added (g.S.Socket.received c.args.self.now.socket)) refl (λ was. was)

pub returns-in-Moved-clause-drops : goal.returns-in-Moved-clause-drops
returns-in-Moved-clause-drops g c =
    subst (λ (old : OpenConnection g.row.S.Denot). Drops g.S.Socket.received g.S.Socket.sent (length c.args.buffer.now) old (connected c.receive.new.self c.self.inside.state c.self.inside.phase c.self.inside.is_over)) c.self.view_is
    (drops-moved g.S.Socket.received g.S.Socket.sent (length c.args.buffer.now) (connected c.self.inside.socket c.self.inside.state c.self.inside.phase c.self.inside.is_over) c.receive.new.self c.self.inside.is_over c.receive.result c.receive.new.buffer
    (few-moved c.receive.result c.receive.new.buffer c.args.buffer.now c.receive.auto.buffer) c.receive.ensures.received c.receive.ensures.sent (λ was. was))

pub returns-in-Waits-clause-drops : goal.returns-in-Waits-clause-drops
returns-in-Waits-clause-drops g c =
    subst (λ (old : OpenConnection g.row.S.Denot). Drops g.S.Socket.received g.S.Socket.sent (length c.args.buffer.now) old (connected c.receive.new.self c.self.inside.state c.self.inside.phase c.self.inside.is_over)) c.self.view_is
    (drops-moved g.S.Socket.received g.S.Socket.sent (length c.args.buffer.now) (connected c.self.inside.socket c.self.inside.state c.self.inside.phase c.self.inside.is_over) c.receive.new.self c.self.inside.is_over c.receive.result c.receive.new.buffer
    (few-moved c.receive.result c.receive.new.buffer c.args.buffer.now c.receive.auto.buffer) c.receive.ensures.received c.receive.ensures.sent (λ was. was))

pub returns-in-Ended-clause-drops : goal.returns-in-Ended-clause-drops
returns-in-Ended-clause-drops g c =
    subst (λ (old : OpenConnection g.row.S.Denot). Drops g.S.Socket.received g.S.Socket.sent (length c.args.buffer.now) old (connected c.receive.new.self c.self.inside.state c.self.inside.phase true)) c.self.view_is
    (drops-moved g.S.Socket.received g.S.Socket.sent (length c.args.buffer.now) (connected c.self.inside.socket c.self.inside.state c.self.inside.phase c.self.inside.is_over) c.receive.new.self true c.receive.result c.receive.new.buffer
    (few-moved c.receive.result c.receive.new.buffer c.args.buffer.now c.receive.auto.buffer) c.receive.ensures.received c.receive.ensures.sent (λ was. refl))

pub returns-in-Broken-clause-drops : goal.returns-in-Broken-clause-drops
returns-in-Broken-clause-drops g c =
    subst (λ (old : OpenConnection g.row.S.Denot). Drops g.S.Socket.received g.S.Socket.sent (length c.args.buffer.now) old (connected c.receive.new.self c.self.inside.state c.self.inside.phase c.self.inside.is_over)) c.self.view_is
    (drops-moved g.S.Socket.received g.S.Socket.sent (length c.args.buffer.now) (connected c.self.inside.socket c.self.inside.state c.self.inside.phase c.self.inside.is_over) c.receive.new.self c.self.inside.is_over c.receive.result c.receive.new.buffer
    (few-moved c.receive.result c.receive.new.buffer c.args.buffer.now c.receive.auto.buffer) c.receive.ensures.received c.receive.ensures.sent (λ was. was))
