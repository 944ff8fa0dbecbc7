use Rattle.registry_desk.proofs.Words.{arith, Err, sym, subst, take}
use Rattle.std.proofs.lemmas.List.{take_more_set}
use Rattle.registry_desk.specs.Together.{MeetFault}
use Rattle.registry_desk.proofs.TogetherFacts.{met_push}
use Rattle.registry_desk.proofs.together.meet.Goals as goal

pub loop-outcome-preserved : goal.loop-outcome-preserved
loop-outcome-preserved c =
    let os = c.loop-outcome.outcomes in
    let n = c.loop-outcome.outcome-index in
    subst (MeetFault c.args.fault) (sym (take_more_set os n (Err c.args.fault) (omega (arith, c.loop-outcome-test.true, c.loop-outcome.auto.outcomes))))
    (met_push c.args.fault (take n os) c.loop-outcome.invariant)
