use Rattle.std.proofs.Common.{take}
use Rattle.registry_service.specs.Turns.{AnswersEach, exchanges}
use Rattle.registry_service.proofs.turning.Service.answer_together.Given as goal

-- the first requests were answered, each in its turn
abbrev pub invariant-loop-i : goal.invariant-loop-i
invariant-loop-i g l = AnswersEach g.Self.Service.answers l.fn.self (exchanges (take l.i l.requests) (take l.i l.outcomes)) l.self
