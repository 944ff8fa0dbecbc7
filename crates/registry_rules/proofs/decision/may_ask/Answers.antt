use Rattle.std.proofs.Common.{sym, ap, ◌∙◌}
use Rattle.registry_rules.specs.Refusals.{permitted, refusal_for}
use Rattle.registry_rules.proofs.decision.may_ask.Goals as goal

pub returns-in-Some : goal.returns-in-Some
returns-in-Some c = λ S stand.
    let r = c.args.request.now in
    c.permitted.ensures ∙ ap permitted (c.refusal_by.ensures S (stand.about _ c.in-Some.is) ∙ ap (λ who. refusal_for S r.at who r.what) (sym c.in-Some.is ∙ stand.caller))
