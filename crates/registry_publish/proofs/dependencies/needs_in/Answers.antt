use Rattle.std.proofs.Common.{refl, rules}
use Rattle.std.proofs.lemmas.Result.{err_from_is_err_and}
use Rattle.serde_json.specs.View.{view}
use Rattle.registry_publish.proofs.NeedFacts.{needs_added, needs_of_no_object, no_dependencies, no_optional, no_peers}
use Rattle.registry_publish.proofs.StopFacts.{stops_whole}
use Rattle.registry_publish.proofs.dependencies.needs_in.Goals as goal

pub returns-then-not-is_object : goal.returns-then-not-is_object
returns-then-not-is_object c = (refl, needs_of_no_object (view c.args.manifest.now) (search rules))

pub returns-in_err-push_needs_at : goal.returns-in_err-push_needs_at
returns-in_err-push_needs_at c =
    let q = err_from_is_err_and c.from_residual.result c.from_residual.ensures.1 in
    rw (q.1, q.2) (stops_whole _ _ (no_dependencies (view c.args.manifest.now)) _ c.in_err-push_needs_at.ensures.err)

pub returns-in_err-push_needs_at-2 : goal.returns-in_err-push_needs_at-2
returns-in_err-push_needs_at-2 c =
    let q = err_from_is_err_and c.from_residual-in_err-push_needs_at-2.result c.from_residual-in_err-push_needs_at-2.ensures.1 in
    rw (q.1, q.2) (stops_whole _ _ (no_optional (view c.args.manifest.now)) _ c.in_err-push_needs_at-2.ensures.err)

pub returns-in_err-push_needs_at-3 : goal.returns-in_err-push_needs_at-3
returns-in_err-push_needs_at-3 c =
    let q = err_from_is_err_and c.from_residual-in_err-push_needs_at-3.result c.from_residual-in_err-push_needs_at-3.ensures.1 in
    rw (q.1, q.2) (stops_whole _ _ (no_peers (view c.args.manifest.now)) _ c.in_err-push_needs_at-3.ensures.err)

pub returns : goal.returns
returns c = needs_added (view c.args.manifest.now) _ _ _ _ (search rules) c.new-needs.ensures.items c.in_ok-push_needs_at.ensures.ok c.in_ok-push_needs_at-2.ensures.ok c.in_ok-push_needs_at-3.ensures.ok
