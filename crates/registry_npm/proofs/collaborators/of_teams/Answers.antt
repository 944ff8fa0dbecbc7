use Rattle.std.proofs.Common.{ap, sym}
use Rattle.std.proofs.lemmas.Result.{err_from_is_err_and}
use Rattle.registry_rules.specs.declared.request.Action.TheVariants as action
use Rattle.registry_npm.proofs.CollaboratorFacts.{comes-formless, comes-taken, comes-tried, comes-unread, comes-untaken}
use Rattle.registry_npm.proofs.ComesFacts.{comes-starved}
use Rattle.registry_npm.proofs.collaborators.of_teams.Goals as goal

pub returns-in_err-organisation : goal.returns-in_err-organisation
returns-in_err-organisation g c =
    let q = err_from_is_err_and c.from_residual.result c.from_residual.ensures.1 in
    rw (q.1, q.2, c.in_err-organisation.ensures.err) (comes-starved g.D.Service.answers _ _)

pub returns-in_err-taken : goal.returns-in_err-taken
returns-in_err-taken g c =
    let q = err_from_is_err_and c.from_residual-in_err-taken.result c.from_residual-in_err-taken.ensures.1 in
    rw (q.1, q.2) (comes-tried g.D.Service.answers _ _ _ _ _ _ _ _ _ _ (ap action.Teams c.in_ok-organisation.ensures.ok) c.asked-outcome.ensures (comes-untaken g.D.Service.answers _ _ _ _ _ _ c.in_err-taken.ensures))

pub returns-in-Err : goal.returns-in-Err
returns-in-Err g c = comes-tried g.D.Service.answers _ _ _ _ _ _ _ _ _ _ (ap action.Teams c.in_ok-organisation.ensures.ok) c.asked-outcome.ensures (comes-untaken g.D.Service.answers _ _ _ _ _ _ (rw c.in-Err.is at c.in_ok-taken.ensures))

pub returns-in_err-teams : goal.returns-in_err-teams
returns-in_err-teams g c =
    let q = err_from_is_err_and c.from_residual-in_err-teams.result c.from_residual-in_err-teams.ensures.1 in
    rw (q.1, q.2, c.in_err-teams.ensures.err) (comes-tried g.D.Service.answers _ _ _ _ _ _ _ _ _ _ (ap action.Teams c.in_ok-organisation.ensures.ok) c.asked-outcome.ensures (comes-unread g.D.Service.answers _ _ _ _ _ _ _ (rw c.in-Ok.is at c.in_ok-taken.ensures).0 (rw c.in-Ok.is at c.in_ok-taken.ensures).1))

pub returns-in-Some : goal.returns-in-Some
returns-in-Some g c = comes-tried g.D.Service.answers _ _ _ _ _ _ _ _ _ _ (ap action.Teams c.in_ok-organisation.ensures.ok) c.asked-outcome.ensures (comes-taken g.D.Service.answers _ _ _ _ _ _ _ (rw c.in-Ok.is at c.in_ok-taken.ensures).0 (rw c.in-Ok.is at c.in_ok-taken.ensures).1 _ c.in-Some.teams.items _ (sym (rw (c.as_str.ensures.text, c.in-Some.is) at c.in_ok-teams.ensures.ok)) (rw c.deref.ensures.value at c.of_each_team.ensures))

pub returns : goal.returns
returns g c = comes-tried g.D.Service.answers _ _ _ _ _ _ _ _ _ _ (ap action.Teams c.in_ok-organisation.ensures.ok) c.asked-outcome.ensures (comes-formless g.D.Service.answers _ _ _ _ _ _ _ (rw c.in-Ok.is at c.in_ok-taken.ensures).0 (rw c.in-Ok.is at c.in_ok-taken.ensures).1 (sym (rw (c.as_str.ensures.text, c.in-None.is) at c.in_ok-teams.ensures.ok)))
