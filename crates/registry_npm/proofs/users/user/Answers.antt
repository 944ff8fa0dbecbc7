use Rattle.std.proofs.Common.{inl, inr, refl, sym, ◌∙◌}
use Rattle.registry_npm.proofs.users.user.Goals as goal

pub returns-in-Err : goal.returns-in-Err
returns-in-Err g c = inl (c.in-Err.stop, c.in-Err.ensures, c.stopped.ensures, refl)

pub returns-then-is_stop : goal.returns-then-is_stop
returns-then-is_stop g c = inr (c.in-Ok.who, c.answer-outcome.result, c.in-Ok.ensures, sym c.is_stop.ensures ∙ c.if-is_stop.true, (rw c.request-request.ensures at c.answer-outcome.ensures), c.refused.ensures)

pub returns : goal.returns
returns g c = (c.in-Ok.ensures, (c.answer-outcome.result, sym c.is_stop.ensures ∙ c.if-is_stop.false, (rw c.request-request.ensures at c.answer-outcome.ensures)))
