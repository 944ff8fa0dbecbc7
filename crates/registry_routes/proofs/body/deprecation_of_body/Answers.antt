use Rattle.std.proofs.Common.{sym, ap, Err}
use Rattle.std.proofs.lemmas.Result.{err_from_is_err_and}
use Rattle.serde_json.specs.View.{view}
use Rattle.registry_routes.specs.Bodies.{IsDeprecationBody}
use Rattle.registry_routes.proofs.DeprecationFacts.{stops-selector}
use Rattle.registry_routes.proofs.body.deprecation_of_body.Goals as goal

pub returns-clause-ok : goal.returns-clause-ok
returns-clause-ok c =
    let selector = rw c.in-Some.is at c.text_at.ensures in
    let message = rw c.in-Some-text_at.is at c.text_at-2.ensures in
    let kept = c.in_ok-message.ensures.ok in (
      c.in-Some.selector.now,
      record {
        value = view c.in_ok-value.value;
        json = c.in_ok-value.ensures.ok;
        has_selector = sym selector;
        has_message = rw kept.0 (sym message);
        is_short = rw kept.0 kept.1;
      },
      c.in_ok-selector.ensures.ok,
    )

pub returns-in_err-selector-clause-err : goal.returns-in_err-selector-clause-err
returns-in_err-selector-clause-err c =
    let selector = rw c.in-Some.is at c.text_at.ensures in
    let message = rw c.in-Some-text_at.is at c.text_at-2.ensures in
    let kept = c.in_ok-message.ensures.ok in
    let said : IsDeprecationBody c.args.body.now c.in-Some.selector.now c.in_ok-message.message = record {
      value = view c.in_ok-value.value;
      json = c.in_ok-value.ensures.ok;
      has_selector = sym selector;
      has_message = rw kept.0 (sym message);
      is_short = rw kept.0 kept.1;
    } in
    let q = err_from_is_err_and c.from_residual-in_err-selector.result c.from_residual-in_err-selector.ensures.1 in
    rw (q.1, q.2) (stops-selector _ c.in-Some.selector.now _ _ said c.in_err-selector.ensures.err (λ e. c.in_err-selector.ensures.refused.0 (ap Err e)))
