use Rattle.std.proofs.Common.{◌≡◌, ◌∙◌, ap, arith, replicate}
use Rattle.registry_server.specs.Pools.{free, place_count}
use Rattle.registry_server.proofs.pool.ConnectionPool.new.Goals as goal

pub returns : goal.returns
returns g c =
    let all : c.loop.counter ≡ place_count = omega (arith, c.loop-test.false, c.loop.auto.counter-end) in
    c.loop.invariant ∙ ap (λ n. replicate n free) all
