use Rattle.std.proofs.Common.{Bool, Some, None, ap, refl}
use Rattle.registry_server.specs.Pools.{placed}
use Rattle.registry_server.specs.declared.connection.Visit.TheVariants.{Again, Rests, Over}
use Rattle.registry_server.proofs.GroupFacts.{answers-place}
use Rattle.registry_server.proofs.pool.Place.answer.Goals as goal

pub returns-in-Again-clause-answers : goal.returns-in-Again-clause-answers
returns-in-Again-clause-answers g c =
    answers-place g.S.Socket.received g.S.Socket.sent g.S.Socket.has_none g.S.Socket.is_full g.S.Socket.has_more g.S.Socket.is_ended g.S.Socket.is_broken g.D.HttpService.speaks g.D.Service.answers g.D.Service.over c.args.now c.args.self.now _ c.args.command.now c.args.outcome c.in-Some.connection c.answer_command.new.self Again c.in-Some.is
    (λ idle. refl) c.in-Again.ensures.answers

pub returns-in-Rests-clause-answers : goal.returns-in-Rests-clause-answers
returns-in-Rests-clause-answers g c =
    answers-place g.S.Socket.received g.S.Socket.sent g.S.Socket.has_none g.S.Socket.is_full g.S.Socket.has_more g.S.Socket.is_ended g.S.Socket.is_broken g.D.HttpService.speaks g.D.Service.answers g.D.Service.over c.args.now c.args.self.now _ c.args.command.now c.args.outcome c.in-Some.connection c.answer_command.new.self Rests c.in-Some.is
    (λ idle. ap (λ (b : Bool). placed (Some c.answer_command.new.self) b c.args.self.now.is_chosen) idle) c.in-Rests.ensures.answers

pub returns-in-Over-clause-answers : goal.returns-in-Over-clause-answers
returns-in-Over-clause-answers g c =
    answers-place g.S.Socket.received g.S.Socket.sent g.S.Socket.has_none g.S.Socket.is_full g.S.Socket.has_more g.S.Socket.is_ended g.S.Socket.is_broken g.D.HttpService.speaks g.D.Service.answers g.D.Service.over c.args.now c.args.self.now _ c.args.command.now c.args.outcome c.in-Some.connection c.answer_command.new.self Over c.in-Some.is
    (λ idle. ap (λ (b : Bool). placed None b c.args.self.now.is_chosen) idle) c.in-Over.ensures.answers
