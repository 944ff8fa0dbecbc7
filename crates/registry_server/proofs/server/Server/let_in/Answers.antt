use Rattle.registry_server.specs.Pools.{nobody_comes}
use Rattle.registry_server.proofs.ComingFacts.{lets-then}
use Rattle.registry_server.proofs.server.Server.let_in.Goals as goal

pub returns-in_err-leave_descriptor-clause-comes : goal.returns-in_err-leave_descriptor-clause-comes
returns-in_err-leave_descriptor-clause-comes g c =
    lets-then c.args.now c.args.self.now.pool.places.items c.admit.new.self.pool.places.items _ c.admit.ensures.comes (c.leave_descriptor.ensures.comes c.args.now)

pub returns-in_ok-leave_descriptor-clause-comes : goal.returns-in_ok-leave_descriptor-clause-comes
returns-in_ok-leave_descriptor-clause-comes g c =
    lets-then c.args.now c.args.self.now.pool.places.items c.admit.new.self.pool.places.items _ c.admit.ensures.comes (c.leave_descriptor.ensures.comes c.args.now)

pub returns-else-is_asked-clause-comes : goal.returns-else-is_asked-clause-comes
returns-else-is_asked-clause-comes g c = nobody_comes
