use Rattle.registry_desk.proofs.Words.{◌∙◌, ap, sym, unless_allowed, access_of}
use Rattle.registry_desk.proofs.EarlyFacts.{rows_tell}
use Rattle.registry_desk.proofs.InsideFacts.{found}
use Rattle.registry_desk.proofs.policy.rows_if_allowed.Goals as goal

pub returns-in-Ok : goal.returns-in-Ok
returns-in-Ok g c = found c.in_ok-rows.ensures (λ d same.
    (ap unless_allowed (sym (c.allowed.ensures.of_state (access_of d) (rows_tell c.args.ask.now c.in_ok-rows.rows (access_of d) c.args.caller.now c.args.organisation.now c.requires.asked same)) ∙ c.in-Ok.is), same))

pub returns-in-Err : goal.returns-in-Err
returns-in-Err g c = found c.in_ok-rows.ensures (λ d same.
    ap unless_allowed (sym (c.allowed.ensures.of_state (access_of d) (rows_tell c.args.ask.now c.in_ok-rows.rows (access_of d) c.args.caller.now c.args.organisation.now c.requires.asked same)) ∙ c.in-Err.is))
