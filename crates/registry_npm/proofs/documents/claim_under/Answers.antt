use Rattle.registry_documents.specs.Documents.{value_of}
use Rattle.registry_npm.proofs.ComesFacts.{comes-read, comes-stopped}
use Rattle.registry_npm.proofs.documents.claim_under.Goals as goal

pub returns-in-Err : goal.returns-in-Err
returns-in-Err g c = comes-stopped g.D.Service.answers _ _ _ c.in-Err.stop _ (rw c.as_slice.ensures at c.in-Err.ensures.err) c.stopped.ensures

pub returns-in-Ok : goal.returns-in-Ok
returns-in-Ok g c = comes-read g.D.Service.answers _ _ _ _ (value_of c.in-Ok.document) _ (rw c.as_slice.ensures at c.in-Ok.ensures.ok) (rw (c.in-Ok.ensures.size, c.as_slice.ensures) at c.package.ensures)
