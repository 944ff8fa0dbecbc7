use Rattle.registry_desk.proofs.Words.{take}
use Rattle.registry_desk.specs.Together.{MeetFault}
use Rattle.registry_desk.proofs.together.meet.Given as goal

-- those so far meet it
abbrev pub invariant-loop-outcome : goal.invariant-loop-outcome
invariant-loop-outcome l = MeetFault l.fault (take l.outcome-index l.outcomes)
