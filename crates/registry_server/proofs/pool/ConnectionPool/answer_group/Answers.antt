use Rattle.std.proofs.Common.{◌≡◌, [], List, refl, subst, sym}
use Rattle.registry_server.specs.Groups.{AskedEach}
use Rattle.registry_server.specs.declared.group.Command.{Command}
use Rattle.registry_server.proofs.GroupFacts.{none-later}
use Rattle.registry_server.proofs.pool.ConnectionPool.answer_group.Goals as goal

pub returns-then-is_empty : goal.returns-then-is_empty
returns-then-is_empty g c =
    let none : c.args.self.now.group.commands.items ≡ [] = c.is_empty.ensures c.if-is_empty.true in (
      [],
      subst (λ (l : List Command). AskedEach g.D.Service.answers l [] c.args.service.now c.args.service.now (g.C.Clock.readings c.args.clock.now) (g.C.Clock.readings c.args.clock.now)) (sym none) (refl, refl),
      none-later g.S.Socket.received g.S.Socket.sent g.S.Socket.has_none g.S.Socket.is_full g.S.Socket.has_more g.S.Socket.is_ended g.S.Socket.is_broken g.D.HttpService.speaks g.D.Service.answers g.D.Service.over c.args.now 0 c.args.self.now.places.items c.args.self.now.group.commands.items [] none,
    )
