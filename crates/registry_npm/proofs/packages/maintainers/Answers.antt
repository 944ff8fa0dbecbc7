use Rattle.registry_npm.specs.Packages.{other_of}
use Rattle.registry_npm.specs.Purposes.{purpose_view}
use Rattle.registry_npm.proofs.ComesFacts.{comes-alone, comes-asked, comes-document, comes-other}
use Rattle.registry_npm.proofs.packages.maintainers.Goals as goal

pub returns-in-Ok : goal.returns-in-Ok
returns-in-Ok g c = comes-asked g.D.Service.answers _ _ _ _ _ _ _ _ (rw c.requires at c.request-request.ensures) c.answer-outcome.ensures (comes-document g.D.Service.answers _ _ _ _ _ _ _ c.in-Ok.ensures (rw c.as_str.ensures.text at c.with_names.ensures))

pub returns : goal.returns
returns g c = comes-asked g.D.Service.answers _ _ _ _ _ _ _ _ (rw c.requires at c.request-request.ensures) c.answer-outcome.ensures (comes-other g.D.Service.answers _ _ _ _ _ _ c.in-Err.ensures.1 (rw c.of.ensures (comes-alone g.D.Service.answers _ (other_of (purpose_view c.args.purpose) c.args.tried c.answer-outcome.result) _ (rw c.in-Err.ensures.0 at c.otherwise.ensures))))
