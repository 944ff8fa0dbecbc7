use Rattle.std.proofs.Common.{◌≡◌, length}
use Rattle.registry_documents.specs.Documents.{size_of, value_of}
use Rattle.registry_npm.specs.Packages.{claimed, published}
use Rattle.registry_npm.proofs.ComesFacts.{comes-asked, comes-ended, comes-read, comes-stopped}
use Rattle.registry_npm.proofs.documents.put_of.Goals as goal

pub returns-in-Err : goal.returns-in-Err
returns-in-Err g c = comes-stopped g.D.Service.answers _ _ _ c.in-Err.stop _ (rw c.as_slice.ensures at c.in-Err.ensures.read) c.stopped.ensures

pub returns-in-Ok-Published : goal.returns-in-Ok-Published
returns-in-Ok-Published g c = comes-read g.D.Service.answers _ _ _ _ (published c.in-Ok-Published.form) _ (rw (c.in-Ok-Published.field-0-is, c.as_slice.ensures) at c.in-Ok-Published.ensures.read) (rw c.of.ensures (comes-asked g.D.Service.answers _ _ _ _ _ _ _ _ c.request-request.ensures c.answer.ensures (comes-ended g.D.Service.answers _ _)))

pub returns-in-Ok-Claimed : goal.returns-in-Ok-Claimed
returns-in-Ok-Claimed g c =
    let size : size_of c.in-Ok-Claimed.document ≡ length c.args.wanted.now.body = rw (c.in-Ok-Claimed.field-0-is, c.as_slice.ensures) at c.in-Ok-Claimed.ensures.size in
    comes-read g.D.Service.answers _ _ _ _ (claimed (value_of c.in-Ok-Claimed.document)) _ (rw (c.in-Ok-Claimed.field-0-is, c.as_slice.ensures) at c.in-Ok-Claimed.ensures.read) (rw size at c.package.ensures)
