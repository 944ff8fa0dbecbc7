use Rattle.std.proofs.Common.{◌≡◌, ◌++◌, take, drop, map}
use Rattle.registry_server.specs.Pools.{finishing_at}
use Rattle.registry_server.proofs.pool.ConnectionPool.finish_all.Given as goal

abbrev pub invariant-loop-place : goal.invariant-loop-place
invariant-loop-place g l =
    let old = l.fn.self.places.items in
    l.place-items ≡ map finishing_at (take l.place-index old) ++ drop l.place-index old
