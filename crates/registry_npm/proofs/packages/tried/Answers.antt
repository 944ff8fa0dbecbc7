use Rattle.std.proofs.Common.{sym, ◌∙◌}
use Rattle.registry_npm.specs.Packages.{late, path_of}
use Rattle.registry_npm.specs.Purposes.{purpose_view}
use Rattle.registry_npm.proofs.ComesFacts.{comes-alone, comes-asked, comes-either, comes-or_else}
use Rattle.registry_npm.proofs.packages.tried.Goals as goal

pub returns-then-is_stop : goal.returns-then-is_stop
returns-then-is_stop g c = comes-asked g.D.Service.answers _ _ _ _ _ _ _ _ (rw c.requires at c.request-request.ensures) c.answer-outcome.ensures (comes-either g.D.Service.answers _ _ _ _ _ _ (sym c.is_stop.ensures ∙ c.if-is_stop.true) (rw c.of.ensures (comes-alone g.D.Service.answers _ (late (path_of (purpose_view c.args.purpose)) c.answer-outcome.result) _ (rw c.path_of.ensures at c.late.ensures))))

pub returns : goal.returns
returns g c = comes-asked g.D.Service.answers _ _ _ _ _ _ _ _ (rw c.requires at c.request-request.ensures) c.answer-outcome.ensures (comes-or_else g.D.Service.answers _ _ _ _ _ _ (sym c.is_stop.ensures ∙ c.if-is_stop.false) c.serve.ensures)
