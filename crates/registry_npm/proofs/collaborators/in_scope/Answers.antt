use Rattle.std.proofs.Common.{◌∙◌, sym}
use Rattle.registry_npm.specs.Forms.{writers_form}
use Rattle.registry_npm.specs.Leading.{shown_as}
use Rattle.registry_npm.proofs.CollaboratorFacts.{ident-scope}
use Rattle.registry_npm.proofs.ComesFacts.{comes-alone, comes-on, comes-stop}
use Rattle.registry_npm.proofs.collaborators.in_scope.Goals as goal

pub of_scope-requires : goal.of_scope-requires
of_scope-requires g c = ident-scope _ _ (rw c.in-Some.is at c.scope.ensures.form)

pub returns-then-is_stop : goal.returns-then-is_stop
returns-then-is_stop g c = rw (sym (rw c.in-Some.is at c.scope.ensures.scope)) (comes-stop g.D.Service.answers _ _ _ (sym c.is_stop.ensures ∙ c.if-is_stop.true))

pub returns : goal.returns
returns g c = rw (sym (rw c.in-Some.is at c.scope.ensures.scope)) (comes-on g.D.Service.answers _ _ _ _ _ (sym c.is_stop.ensures ∙ c.if-is_stop.false) c.of_scope.ensures)

pub returns-in-None : goal.returns-in-None
returns-in-None g c = rw (sym (rw c.in-None.is at c.scope.ensures.scope)) (comes-alone g.D.Service.answers _ (shown_as writers_form c.args.outcome) _ c.writers.ensures)
