use Rattle.std.proofs.Common.{false, inr, ℕ}
use Rattle.registry_routes.specs.Readings.{values_view}
use Rattle.registry_routes.specs.Routes.{Values}
use Rattle.registry_service.specs.HttpAnswers.{Outcome}
use Rattle.registry_service.specs.Turns.{Answering}
use Rattle.registry_wire.specs.declared.wanted.Wanted.{Wanted}
use Rattle.registry_npm.specs.Leading.{Comes, by_user, ends}
use Rattle.registry_npm.specs.Packages.{leads_document, leads_put}
use Rattle.registry_npm.proofs.ComesFacts.{comes-stranger, comes-user}
use Rattle.registry_npm.proofs.documents.document.Goals as goal

-- it isn't asked for at once
comes-second : {D : Type 0} (answers : Answering D) (M N : D) (v : Values) (w : Wanted) (at : ℕ) (o : Outcome) → Comes answers M (by_user ends w at (leads_put v w.body at)) o N → Comes answers M (leads_document v w at) o N
comes-second answers M N v w at o (es, h, later) = (es, inr h, later)

pub returns-in-Ok : goal.returns-in-Ok
returns-in-Ok g c = comes-second g.D.Service.answers _ _ (values_view c.args.values) c.args.wanted.now c.args.at _ (comes-user g.D.Service.answers c.args.wanted.now _ false _ _ _ _ c.in-Ok.who _ c.in-Ok.ensures c.put_by.ensures)

pub returns-in-Err : goal.returns-in-Err
returns-in-Err g c = comes-second g.D.Service.answers _ _ (values_view c.args.values) c.args.wanted.now c.args.at _ (rw c.of.ensures (comes-stranger g.D.Service.answers c.args.wanted.now _ false _ _ _ _ c.in-Err.ensures))
