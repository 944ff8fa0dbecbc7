use Rattle.registry_desk.proofs.InsideFacts.{both, found}
use Rattle.registry_desk.proofs.withdrawals.facts_for_deprecate.Goals as goal

pub returns-in_ok-live-in-Ok : goal.returns-in_ok-live-in-Ok
returns-in_ok-live-in-Ok g c = found (both c.in_ok-standing.ensures.finds c.in_ok-live-in-Ok.ensures) (λ d it selector message sound now.
    let allowed = rw c.in-Ok.is at (it.0 sound) in
    (allowed.0, (allowed.1, it.1)))
