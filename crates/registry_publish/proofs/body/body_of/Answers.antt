use Rattle.std.proofs.Common.{List, ℕ}
use Rattle.std.proofs.lemmas.Result.{err_from_is_err_and}
use Rattle.serde_json.specs.View.{view}
use Rattle.registry_publish.specs.Attachments.{IsAttached}
use Rattle.registry_publish.specs.Body.{BodyParts, IsBody}
use Rattle.registry_publish.proofs.StopFacts.{stops_whole}
use Rattle.registry_publish.proofs.body.body_of.Goals as goal

pub returns-in_err-archive : goal.returns-in_err-archive
returns-in_err-archive c =
    let q = err_from_is_err_and c.from_residual-in_err-archive.result c.from_residual-in_err-archive.ensures.1 in
    let refuted = λ (none : (z : List ℕ) → ¬ (IsAttached (view c.args.value.now) z)) (p : BodyParts) (h : IsBody (view c.args.value.now) p). none p.archive h.archive in
    rw (q.1, q.2) (stops_whole _ _ refuted _ c.in_err-archive.ensures)
