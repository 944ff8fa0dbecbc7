use Rattle.std.proofs.Common.{false, length}
use Rattle.registry_server.specs.Pools.{is_crowd}
use Rattle.registry_server.proofs.GroupFacts.{first-spelled, visits-together}
use Rattle.registry_server.proofs.pool.ConnectionPool.visit_all.Goals as goal

pub answer_group-requires-clause-spelled : goal.answer_group-requires-clause-spelled
answer_group-requires-clause-spelled g c =
    let socket = g.S.Socket in
    let visited = c.visit_each.new in
    first-spelled socket.received socket.sent socket.has_none socket.is_full socket.has_more socket.is_ended socket.is_broken g.D.HttpService.speaks g.D.Service.answers g.D.Service.over false c.look_at_bodies-is_crowd.result c.args.now (length c.args.buffer.now) 0
    c.look_at_bodies-is_crowd.new.self.places.items visited.self.places.items visited.self.group.commands.items visited.self.group.requests.items c.args.service.now visited.service (g.C.Clock.readings c.args.clock.now) (g.C.Clock.readings visited.clock) c.visit_each.ensures.visits

-- the commands that were set aside are answered after the other visits
pub returns : goal.returns
returns g c =
    let socket = g.S.Socket in
    let visited = c.visit_each.new in
    let readings1 = g.C.Clock.readings visited.clock in
    let (outcomes, asked, places) = c.answer_group.ensures in
    record {
      looked = c.look_at_bodies-is_crowd.new.self.places.items;
      looks = c.look_at_bodies-is_crowd.ensures.looks;
      between = visited.service;
      readings1 = readings1;
      visits = visits-together socket.received socket.sent socket.has_none socket.is_full socket.has_more socket.is_ended socket.is_broken g.D.HttpService.speaks g.D.Service.answers g.D.Service.over false (is_crowd c.args.self.now.places.items) c.args.now (length c.args.buffer.now) 0
          c.look_at_bodies-is_crowd.new.self.places.items visited.self.places.items c.answer_group.new.self.places.items visited.self.group.commands.items visited.self.group.requests.items outcomes
          c.args.service.now visited.service visited.service c.answer_group.new.service (g.C.Clock.readings c.args.clock.now) readings1 readings1 (g.C.Clock.readings c.answer_group.new.clock)
          (rw c.look_at_bodies-is_crowd.ensures.crowd at c.visit_each.ensures.visits) asked places;
    }
