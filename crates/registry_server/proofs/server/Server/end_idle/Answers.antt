use Rattle.registry_server.specs.Pools.{idle_ends}
use Rattle.registry_server.proofs.ComingFacts.{looks-once}
use Rattle.registry_server.proofs.server.Server.end_idle.Goals as goal

pub returns-in_err-look : goal.returns-in_err-look
returns-in_err-look g c = record { comes = λ now. looks-once now _ _ c.look.ensures.keeps }

pub returns : goal.returns
returns g c = record {
  comes = λ now. idle_ends c.look.new.self.pool.places.items _ _ (looks-once now c.args.self.now.pool.places.items c.look.new.self.pool.places.items c.look.ensures.keeps) c.end_idle.ensures;
}
