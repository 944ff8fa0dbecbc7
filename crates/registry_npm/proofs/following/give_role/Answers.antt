use Rattle.std.proofs.Common.{sym, ◌∙◌}
use Rattle.registry_npm.proofs.ComesFacts.{comes-asked, comes-ended, comes-on, comes-stop}
use Rattle.registry_npm.proofs.following.give_role.Goals as goal

pub returns-then-is_stop : goal.returns-then-is_stop
returns-then-is_stop g c = comes-asked g.D.Service.answers _ _ _ _ _ _ _ _ c.request-request.ensures c.answer-outcome.ensures (comes-stop g.D.Service.answers _ _ _ (sym c.is_stop.ensures ∙ c.if-is_stop.true))

pub returns : goal.returns
returns g c = comes-asked g.D.Service.answers _ _ _ _ _ _ _ _ c.request-request.ensures c.answer-outcome.ensures (comes-on g.D.Service.answers _ _ _ _ _ (sym c.is_stop.ensures ∙ c.if-is_stop.false) (comes-ended g.D.Service.answers _ _))
