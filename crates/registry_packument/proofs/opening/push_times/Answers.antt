use Rattle.std.proofs.lemmas.List.{drop_all}
use Rattle.registry_packument.proofs.PackFacts.{ended_by, time_step}
use Rattle.registry_packument.proofs.opening.push_times.Goals as goal

pub loop-time-preserved : goal.loop-time-preserved
loop-time-preserved c =
    time_step c.args.head.now _ _ _ c.loop-time.later c.args.times.now c.loop-time.time-index c.time-item.result c.loop-time-test.true c.time-item.is
    c.in_ok-push_time.ensures c.loop-time.invariant

pub returns : goal.returns
returns c =
    ended_by c.push_after_times.result _ _ _ c.push_after_times.ensures
    (rw (drop_all c.loop-time.time-index c.args.times.now c.loop-time-test.false) at c.loop-time.invariant)
