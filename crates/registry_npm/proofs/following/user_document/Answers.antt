use Rattle.registry_npm.specs.Forms.{user_text}
use Rattle.registry_npm.specs.Leading.{shows}
use Rattle.std.proofs.Common.{sym, ◌∙◌}
use Rattle.registry_npm.specs.Callers.{who_of}
use Rattle.registry_npm.proofs.ComesFacts.{comes-alone, comes-asked, comes-on, comes-read, comes-stop, comes-stopped}
use Rattle.registry_npm.proofs.following.user_document.Goals as goal

pub returns-in-Err : goal.returns-in-Err
returns-in-Err g c = comes-stopped g.D.Service.answers _ _ _ c.in-Err.stop _ c.in-Err.ensures c.stopped.ensures

pub returns-then-is_stop : goal.returns-then-is_stop
returns-then-is_stop g c = comes-read g.D.Service.answers _ _ _ _ (who_of c.in-Ok.who) _ c.in-Ok.ensures (comes-asked g.D.Service.answers _ _ _ _ _ _ _ _ c.request-request.ensures c.answer-outcome.ensures (comes-stop g.D.Service.answers _ _ _ (sym c.is_stop.ensures ∙ c.if-is_stop.true)))

pub returns : goal.returns
returns g c = comes-read g.D.Service.answers _ _ _ _ (who_of c.in-Ok.who) _ c.in-Ok.ensures (comes-asked g.D.Service.answers _ _ _ _ _ _ _ _ c.request-request.ensures c.answer-outcome.ensures (comes-on g.D.Service.answers _ _ _ _ _ (sym c.is_stop.ensures ∙ c.if-is_stop.false) (comes-alone g.D.Service.answers _ (shows (user_text c.args.user.now)) _ c.user.ensures)))
