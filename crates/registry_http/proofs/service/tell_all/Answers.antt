use Rattle.std.proofs.Common.{arith}
use Rattle.registry_http.proofs.TogetherFacts.{told-next}
use Rattle.registry_http.proofs.service.tell_all.Goals as goal

pub loop-outcome-preserved : goal.loop-outcome-preserved
loop-outcome-preserved c =
    told-next c.args.fault c.loop-outcome.outcomes c.loop-outcome.outcome-index (omega (arith, c.loop-outcome-test.true, c.loop-outcome.auto.outcomes)) c.loop-outcome.invariant
