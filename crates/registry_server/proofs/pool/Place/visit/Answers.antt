use Rattle.std.proofs.Common.{inl, rules}
use Rattle.registry_service.specs.Turns.{spoken}
use Rattle.registry_server.specs.Queries.{answering}
use Rattle.registry_server.proofs.GroupFacts.{still}
use Rattle.registry_server.proofs.PoolFacts.{visits-none}
use Rattle.registry_server.proofs.pool.Place.visit.Goals as goal

pub returns-then-not-is_to_visit : goal.returns-then-not-is_to_visit
returns-then-not-is_to_visit g c = inl (
  still c.args.group.now,
  visits-none g.S.Socket.received g.S.Socket.sent g.S.Socket.has_none g.S.Socket.is_full g.S.Socket.has_more g.S.Socket.is_ended g.S.Socket.is_broken (spoken g.D.HttpService.speaks (answering c.args.commands_wait g.D.Service.answers)) g.D.Service.over c.args.commands_wait c.args.is_crowd c.args.now _ c.args.self.now _ _ (search rules),
)
