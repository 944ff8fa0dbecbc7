use Rattle.std.proofs.Common.{◌∙◌, ap, sym}
use Rattle.registry_rules.specs.declared.request.Request.{Request}
use Rattle.registry_npm.specs.Callers.{who_of}
use Rattle.registry_npm.proofs.CollaboratorFacts.{same-maintainers}
use Rattle.registry_npm.proofs.ComesFacts.{comes-asked, comes-read, comes-stopped}
use Rattle.registry_npm.proofs.collaborators.writers_of.Goals as goal

pub returns-in-Err : goal.returns-in-Err
returns-in-Err g c = comes-stopped g.D.Service.answers _ _ _ c.in-Err.stop _ c.in-Err.ensures c.stopped.ensures

pub returns : goal.returns
returns g c =
    let same = same-maintainers c.in-Maintainers.package c.args.name (sym c.in-Maintainers.is ∙ ap (λ (r : Request). r.what) c.request-request.ensures) in
    comes-read g.D.Service.answers _ _ _ _ (who_of c.in-Ok.who) _ c.in-Ok.ensures (comes-asked g.D.Service.answers _ _ _ _ _ _ _ _ c.request-request.ensures c.answer-outcome.ensures (rw same at c.in_scope.ensures))
