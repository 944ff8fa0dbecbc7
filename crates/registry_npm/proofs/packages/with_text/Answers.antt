use Rattle.std.proofs.Common.{sym, ◌∙◌}
use Rattle.registry_npm.proofs.ComesFacts.{comes-either, comes-or, comes-or_else, comes-starved}
use Rattle.registry_npm.proofs.packages.with_text.Goals as goal

pub returns-then-is_scoped : goal.returns-then-is_scoped
returns-then-is_scoped g c = comes-either g.D.Service.answers _ _ _ _ _ _ (sym c.is_scoped.ensures ∙ c.if-is_scoped.true) c.fulfil.ensures

pub returns-in-Ok : goal.returns-in-Ok
returns-in-Ok g c = comes-or_else g.D.Service.answers _ _ _ _ _ _ (sym c.is_scoped.ensures ∙ c.if-is_scoped.false) (comes-or g.D.Service.answers _ _ _ _ c.maintainers.ensures)

pub returns-in-Err : goal.returns-in-Err
returns-in-Err g c = comes-or_else g.D.Service.answers _ _ _ _ _ _ (sym c.is_scoped.ensures ∙ c.if-is_scoped.false) (rw (c.faulted.ensures, c.in-Err.ensures.err) (comes-starved g.D.Service.answers _ _))
