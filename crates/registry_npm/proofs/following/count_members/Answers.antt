use Rattle.registry_npm.specs.Npm.{no_document}
use Rattle.registry_npm.proofs.ComesFacts.{comes-alone, comes-asked, comes-document, comes-other}
use Rattle.registry_npm.proofs.following.count_members.Goals as goal

pub returns-in-Ok : goal.returns-in-Ok
returns-in-Ok g c = comes-asked g.D.Service.answers _ _ _ _ _ _ _ _ (rw c.requires at c.request-request.ensures) c.answer-outcome.ensures (comes-document g.D.Service.answers _ _ _ _ _ _ _ c.in-Ok.ensures (rw c.as_str.ensures.text at c.set_counted.ensures))

pub returns-in-Err : goal.returns-in-Err
returns-in-Err g c = comes-asked g.D.Service.answers _ _ _ _ _ _ _ _ (rw c.requires at c.request-request.ensures) c.answer-outcome.ensures (comes-other g.D.Service.answers _ _ _ _ _ _ c.in-Err.ensures.1 (comes-alone g.D.Service.answers _ (no_document c.answer-outcome.result) _ (rw c.in-Err.ensures.0 at c.no_document.ensures)))
