use Rattle.std.proofs.Common.{take}
use Rattle.registry_desk.specs.Together.{MeetFault}
use Rattle.registry_http.proofs.service.tell_all.Given as goal

-- those so far are told it
abbrev pub invariant-loop-outcome : goal.invariant-loop-outcome
invariant-loop-outcome l = MeetFault l.fault (take l.outcome-index l.outcomes)
