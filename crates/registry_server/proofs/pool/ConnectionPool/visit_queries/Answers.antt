use Rattle.registry_server.proofs.GroupFacts.{paused-first}
use Rattle.registry_server.specs.Queries.{queries}
use Rattle.registry_server.proofs.pool.ConnectionPool.visit_queries.Goals as goal

-- whether commands wait decides what is asked
pub returns : goal.returns
returns g c =
    let socket = g.S.Socket in
    record {
      looked = c.look_at_bodies-is_crowd.new.self.places.items;
      looks = c.look_at_bodies-is_crowd.ensures.looks;
      between = c.visit_each.new.service;
      readings1 = g.C.Clock.readings c.visit_each.new.clock;
      visits = paused-first socket.received socket.sent socket.has_none socket.is_full socket.has_more socket.is_ended socket.is_broken g.D.HttpService.speaks (queries g.D.Service.answers) g.D.Service.over _ _ _ _ _ _ _ _ _ _ _ _ _
          (rw c.look_at_bodies-is_crowd.ensures.crowd at c.visit_each.ensures.visits);
    }
