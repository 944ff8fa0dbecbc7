use Rattle.std.proofs.Common.{◌∙◌}
use Rattle.registry_npm.proofs.ComesFacts.{comes-read, comes-stopped}
use Rattle.registry_npm.proofs.LabelFacts.{form-stopped}
use Rattle.registry_npm.proofs.documents.packument.Goals as goal

pub returns-in-Err-clause-comes : goal.returns-in-Err-clause-comes
returns-in-Err-clause-comes g c = comes-stopped g.D.Service.answers _ _ _ c.in-Err.stop _ c.in-Err.ensures c.stopped.ensures

pub returns-in-Err-clause-labels : goal.returns-in-Err-clause-labels
returns-in-Err-clause-labels g c = rw c.stopped.ensures (c.none.ensures ∙ form-stopped c.args.wanted.now.accept c.in-Err.stop)

pub returns-in-Ok-clause-comes : goal.returns-in-Ok-clause-comes
returns-in-Ok-clause-comes g c = comes-read g.D.Service.answers _ _ _ _ c.in-Ok.name _ c.in-Ok.ensures c.packument_of.ensures.comes
