use Rattle.std.proofs.Common.{sym, ap, ◌∙◌}
use Rattle.std.specs.Prelude.{is_ok}
use Rattle.registry_rules.proofs.CallerFacts.{changes_as_known, not_refused, refused_both}
use Rattle.registry_rules.proofs.decision.decide.Goals as goal

pub returns-in_ok-changes_for-in-Ok-clause-makes : goal.returns-in_ok-changes_for-in-Ok-clause-makes
returns-in_ok-changes_for-in-Ok-clause-makes c = λ S stand.
    let r = c.args.request.now in
    let may = not_refused _ (sym (ap is_ok (c.may_ask.ensures S stand)) ∙ ap is_ok c.in-Ok.is) in
    (may, changes_as_known S r.at r.what _ _ may (λ who e. c.in_ok-changes_for-in-Ok.ensures.command S who (stand.caller ∙ e) (stand.about who (stand.caller ∙ e))))

pub returns-in-Err-clause-refused : goal.returns-in-Err-clause-refused
returns-in-Err-clause-refused c = λ S stand r. refused_both _ _ (sym (c.may_ask.ensures S stand) ∙ c.in-Err.is) r
