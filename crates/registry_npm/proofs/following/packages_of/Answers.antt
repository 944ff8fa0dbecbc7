use Rattle.std.proofs.Common.{sym, ◌∙◌}
use Rattle.registry_npm.proofs.ComesFacts.{comes-on, comes-tested}
use Rattle.registry_npm.proofs.following.packages_of.Goals as goal

pub returns : goal.returns
returns g c = comes-on g.D.Service.answers _ _ _ _ _ (sym c.is_stop.ensures ∙ c.if-is_stop.false) (comes-tested g.D.Service.answers _ _ _ _ _ _ _ c.is_user-is_own.ensures.ok c.packages_if.ensures)
