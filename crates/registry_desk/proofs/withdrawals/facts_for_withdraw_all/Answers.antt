use Rattle.registry_desk.proofs.EarlyFacts.{or_first}
use Rattle.registry_desk.proofs.InsideFacts.{found, then_found}
use Rattle.registry_desk.proofs.withdrawals.facts_for_withdraw_all.Goals as goal

pub returns-in-Ok : goal.returns-in-Ok
returns-in-Ok g c = then_found c.facts_if_all_allowed.result c.in_ok-standing.ensures.finds c.facts_if_all_allowed.ensures (λ y d placed told sound.
    let allowed = rw c.in-Ok.is at (placed sound) in
    told c.args.caller.now allowed.0 allowed.1)

pub returns-in-Err : goal.returns-in-Err
returns-in-Err g c = found c.in_ok-standing.ensures.finds (λ d placed sound. record { tells = λ needs. or_first _ _ _ (rw c.in-Err.is at (placed sound)); some = tt })
