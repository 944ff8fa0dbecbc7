use Rattle.std.proofs.Common.{refl, sym, ◌∙◌}
use Rattle.registry_npm.specs.Npm.{shows_public}
use Rattle.registry_npm.proofs.ComesFacts.{comes-alone, comes-asked, comes-on, comes-stop}
use Rattle.registry_npm.proofs.following.told_to_caller.Goals as goal

pub returns-then-is_stop : goal.returns-then-is_stop
returns-then-is_stop g c = comes-asked g.D.Service.answers _ _ _ _ _ _ _ _ refl c.answer-outcome.ensures (comes-stop g.D.Service.answers _ _ _ (sym c.is_stop.ensures ∙ c.if-is_stop.true))

pub returns : goal.returns
returns g c = comes-asked g.D.Service.answers _ _ _ _ _ _ _ _ refl c.answer-outcome.ensures (comes-on g.D.Service.answers _ _ _ _ _ (sym c.is_stop.ensures ∙ c.if-is_stop.false) (comes-alone g.D.Service.answers _ (shows_public c.args.told.now) _ c.public.ensures))
