use Rattle.std.proofs.Common.{subst}
use Rattle.registry_names.specs.declared.stop.Fault.TheVariants.{Memory}
use Rattle.registry_packument.specs.declared.opener.Sent.TheVariants.{Refused, Whole, WriteFault, Broken}
use Rattle.registry_service.specs.Sendings.{Sends}
use Rattle.registry_desk.specs.Sending.{answers_as_apply}
use Rattle.registry_http.specs.Services.{applied, serving, shown}
use Rattle.registry_http.proofs.SentFacts.{serves, serves_after}
use Rattle.registry_http.proofs.service.RegistryServicePackumentService.send_packument.Goals as goal

pub returns-in-Refused-clause-sends : goal.returns-in-Refused-clause-sends
returns-in-Refused-clause-sends g c =
    subst (λ was. Sends (applied (shown g.S.Store)) (g.O.Opener.opens c.args.opener.now) was c.args.request.now (Refused c.in-Refused.refusal) (serving c.sent.new.registry c.self.inside.is_over) (g.W.ByteOut.bytes c.args.writer.now) (g.W.ByteOut.bytes c.sent.new.writer) (g.W.ByteOut.is_unknown c.sent.new.writer)) c.self.view_is
    (serves g.S.Store (g.O.Opener.opens c.args.opener.now) c.self.inside.registry c.self.inside.is_over c.args.request.now (g.W.ByteOut.bytes c.args.writer.now) (g.W.ByteOut.bytes c.sent.new.writer) (g.W.ByteOut.is_unknown c.sent.new.writer) c.sent.new.registry c.self.inside.is_over (Refused c.in-Refused.refusal) c.in-Refused.ensures.sends)

pub returns-in-Whole-clause-sends : goal.returns-in-Whole-clause-sends
returns-in-Whole-clause-sends g c =
    subst (λ was. Sends (applied (shown g.S.Store)) (g.O.Opener.opens c.args.opener.now) was c.args.request.now Whole (serving c.sent.new.registry c.self.inside.is_over) (g.W.ByteOut.bytes c.args.writer.now) (g.W.ByteOut.bytes c.sent.new.writer) (g.W.ByteOut.is_unknown c.sent.new.writer)) c.self.view_is
    (serves g.S.Store (g.O.Opener.opens c.args.opener.now) c.self.inside.registry c.self.inside.is_over c.args.request.now (g.W.ByteOut.bytes c.args.writer.now) (g.W.ByteOut.bytes c.sent.new.writer) (g.W.ByteOut.is_unknown c.sent.new.writer) c.sent.new.registry c.self.inside.is_over Whole c.in-Whole.ensures.sends)

pub returns-in-WriteFault-clause-sends : goal.returns-in-WriteFault-clause-sends
returns-in-WriteFault-clause-sends g c =
    subst (λ was. Sends (applied (shown g.S.Store)) (g.O.Opener.opens c.args.opener.now) was c.args.request.now WriteFault (serving c.sent.new.registry c.self.inside.is_over) (g.W.ByteOut.bytes c.args.writer.now) (g.W.ByteOut.bytes c.sent.new.writer) (g.W.ByteOut.is_unknown c.sent.new.writer)) c.self.view_is
    (serves g.S.Store (g.O.Opener.opens c.args.opener.now) c.self.inside.registry c.self.inside.is_over c.args.request.now (g.W.ByteOut.bytes c.args.writer.now) (g.W.ByteOut.bytes c.sent.new.writer) (g.W.ByteOut.is_unknown c.sent.new.writer) c.sent.new.registry c.self.inside.is_over WriteFault c.in-WriteFault.ensures.sends)

pub returns-in-Broken-Memory-default-clause-sends : goal.returns-in-Broken-Memory-default-clause-sends
returns-in-Broken-Memory-default-clause-sends g c =
    let started = c.in-Broken-Memory-default.has_started in
    subst (λ was. Sends (applied (shown g.S.Store)) (g.O.Opener.opens c.args.opener.now) was c.args.request.now (Broken Memory started) (serving c.sent.new.registry c.self.inside.is_over) (g.W.ByteOut.bytes c.args.writer.now) (g.W.ByteOut.bytes c.sent.new.writer) (g.W.ByteOut.is_unknown c.sent.new.writer)) c.self.view_is
    (serves g.S.Store (g.O.Opener.opens c.args.opener.now) c.self.inside.registry c.self.inside.is_over c.args.request.now (g.W.ByteOut.bytes c.args.writer.now) (g.W.ByteOut.bytes c.sent.new.writer) (g.W.ByteOut.is_unknown c.sent.new.writer) c.sent.new.registry c.self.inside.is_over (Broken Memory started)
    (subst (λ fault. Sends (answers_as_apply g.S.Store) (g.O.Opener.opens c.args.opener.now) c.self.inside.registry c.args.request.now (Broken fault started) c.sent.new.registry (g.W.ByteOut.bytes c.args.writer.now) (g.W.ByteOut.bytes c.sent.new.writer) (g.W.ByteOut.is_unknown c.sent.new.writer)) c.in-Broken-Memory-default.fault-is c.in-Broken-Memory-default.ensures.sends))

pub returns-in-Broken-Database-default-clause-sends : goal.returns-in-Broken-Database-default-clause-sends
returns-in-Broken-Database-default-clause-sends g c =
    let started = c.in-Broken-Database-default.has_started in
    subst (λ was. Sends (applied (shown g.S.Store)) (g.O.Opener.opens c.args.opener.now) was c.args.request.now (Broken c.look.result started) (serving c.look.new.registry c.look.new.is_over) (g.W.ByteOut.bytes c.args.writer.now) (g.W.ByteOut.bytes c.sent.new.writer) (g.W.ByteOut.is_unknown c.sent.new.writer)) c.self.view_is
    (serves_after g.S.Store (g.O.Opener.opens c.args.opener.now) c.self.inside.registry c.self.inside.is_over c.args.request.now (g.W.ByteOut.bytes c.args.writer.now) (g.W.ByteOut.bytes c.sent.new.writer) (g.W.ByteOut.is_unknown c.sent.new.writer) c.look.new.registry c.look.new.is_over c.sent.new.registry c.in-Broken-Database-default.fault c.look.result
    (record { opened = c.look.ensures.opened; stored = c.look.ensures.stored; survives = c.look.ensures.survives; idle = c.look.ensures.idle }) started c.in-Broken-Database-default.ensures.sends)
