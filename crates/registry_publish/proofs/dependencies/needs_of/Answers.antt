use Rattle.std.proofs.Common.{◌∙◌, rules}
use Rattle.std.proofs.lemmas.Result.{MatchResult-weaker, err_from_is_err_and}
use Rattle.serde_json.specs.View.{view}
use Rattle.registry_publish.proofs.NeedFacts.{needs_of_text, needs_of_no_text}
use Rattle.registry_publish.proofs.StopFacts.{memory_or_bad}
use Rattle.registry_publish.proofs.dependencies.needs_of.Goals as goal

pub returns-in_err-value-clause-err : goal.returns-in_err-value-clause-err
returns-in_err-value-clause-err c =
    let q = err_from_is_err_and c.from_residual.result c.from_residual.ensures.1 in
    rw (q.1, q.2) (memory_or_bad _ _ (λ refuted. needs_of_no_text c.args.manifest.now (rw c.as_bytes.ensures.value at (refuted (search rules)))) _ c.in_err-value.ensures.err)

pub returns-clause-ok : goal.returns-clause-ok
returns-clause-ok c =
    let is = rw c.as_bytes.ensures.value at c.in_ok-value.ensures.ok.1 in
    MatchResult-weaker c.needs_in.result c.needs_in.ensures (λ needs h. needs_of_text _ (view c.in_ok-value.value) is ∙ h) (λ e h. tt)

pub returns-clause-err : goal.returns-clause-err
returns-clause-err c =
    let is = rw c.as_bytes.ensures.value at c.in_ok-value.ensures.ok.1 in
    MatchResult-weaker c.needs_in.result c.needs_in.ensures (λ needs h. tt) (λ e h. memory_or_bad _ _ (λ none. needs_of_text _ (view c.in_ok-value.value) is ∙ none) e h)
