use Rattle.std.proofs.Common.{ap, Err}
use Rattle.std.proofs.lemmas.Result.{err_from_is_err_and}
use Rattle.registry_publish.specs.Views.{body_view}
use Rattle.registry_publish.proofs.FormFacts.{stops_name, stops_version, stops_tag}
use Rattle.registry_publish.proofs.form.names_of.Goals as goal

pub returns-in_err-name-clause-err : goal.returns-in_err-name-clause-err
returns-in_err-name-clause-err c =
    let q = err_from_is_err_and c.from_residual.result c.from_residual.ensures.1 in
    rw (q.1, q.2) (λ b i. stops_name b (body_view c.args.body.now) i _ c.in_err-name.ensures.err)

pub returns-in_err-version-clause-err : goal.returns-in_err-version-clause-err
returns-in_err-version-clause-err c =
    let q = err_from_is_err_and c.from_residual-in_err-version.result c.from_residual-in_err-version.ensures.1 in
    rw (q.1, q.2) (λ b i. stops_version b (body_view c.args.body.now) i c.in_ok-name.ensures.ok.1 _ c.in_err-version.ensures.err)

pub returns-in_err-tag-clause-err : goal.returns-in_err-tag-clause-err
returns-in_err-tag-clause-err c =
    let q = err_from_is_err_and c.from_residual-in_err-tag.result c.from_residual-in_err-tag.ensures.1 in
    rw (q.1, q.2) (λ b i. stops_tag b (body_view c.args.body.now) i c.in_ok-name.ensures.ok.1
    (c.in_ok-version.version, c.in_ok-version.ensures.ok) _ (λ e. (rw c.tag.ensures at c.in_err-tag.ensures.range).0 (ap Err e)) (λ e. (rw c.tag.ensures at c.in_err-tag.ensures.bad).0 (ap Err e)) c.in_err-tag.ensures.err)

pub returns-clause-ok : goal.returns-clause-ok
returns-clause-ok c = record {
  name = c.in_ok-name.ensures.ok;
  version = c.in_ok-version.ensures.ok;
  tag = rw c.tag.ensures at c.in_ok-tag.ensures.ok;
}
