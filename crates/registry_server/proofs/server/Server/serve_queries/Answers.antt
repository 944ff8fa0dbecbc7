use Rattle.registry_server.specs.Pools.{nobody_comes}
use Rattle.registry_server.proofs.server.Server.serve_queries.Goals as goal

pub returns-then-not-end_round-clause-serves : goal.returns-then-not-end_round-clause-serves
returns-then-not-end_round-clause-serves g c = record {
  visited = c.visit_queries.new.self.places.items;
  between = c.visit_queries.new.service;
  round = c.visit_queries.ensures;
  looks = c.end_round.ensures.looks;
  comes = nobody_comes;
}
