use Rattle.std.proofs.Common.{sym}
use Rattle.std.proofs.lemmas.Result.{err_from_is_err_and}
use Rattle.registry_npm.proofs.CollaboratorFacts.{comes-formless, comes-taken, comes-tried, comes-unread, comes-untaken}
use Rattle.registry_npm.proofs.ComesFacts.{comes-starved}
use Rattle.registry_npm.proofs.collaborators.of_granted.Goals as goal

pub returns-in_err-what : goal.returns-in_err-what
returns-in_err-what g c =
    let q = err_from_is_err_and c.from_residual.result c.from_residual.ensures.1 in
    rw (q.1, q.2, c.in_err-what.ensures.err) (λ members ts. comes-starved g.D.Service.answers _ _)

pub returns-in_err-taken : goal.returns-in_err-taken
returns-in_err-taken g c =
    let q = err_from_is_err_and c.from_residual-in_err-taken.result c.from_residual-in_err-taken.ensures.1 in
    rw (q.1, q.2) (λ members ts. comes-tried g.D.Service.answers _ _ _ _ _ _ _ _ _ _ c.in_ok-what.ensures.ok c.asked-outcome.ensures (comes-untaken g.D.Service.answers _ _ _ _ _ _ c.in_err-taken.ensures))

pub returns-in-Err : goal.returns-in-Err
returns-in-Err g c = λ members ts. comes-tried g.D.Service.answers _ _ _ _ _ _ _ _ _ _ c.in_ok-what.ensures.ok c.asked-outcome.ensures (comes-untaken g.D.Service.answers _ _ _ _ _ _ (rw c.in-Err.is at c.in_ok-taken.ensures))

pub returns-in_err-users : goal.returns-in_err-users
returns-in_err-users g c =
    let q = err_from_is_err_and c.from_residual-in_err-users.result c.from_residual-in_err-users.ensures.1 in
    rw (q.1, q.2, c.in_err-users.ensures.err) (λ members ts. comes-tried g.D.Service.answers _ _ _ _ _ _ _ _ _ _ c.in_ok-what.ensures.ok c.asked-outcome.ensures (comes-unread g.D.Service.answers _ _ _ _ _ _ _ (rw c.in-Ok.is at c.in_ok-taken.ensures).0 (rw c.in-Ok.is at c.in_ok-taken.ensures).1))

pub returns-in-None : goal.returns-in-None
returns-in-None g c = λ members ts. comes-tried g.D.Service.answers _ _ _ _ _ _ _ _ _ _ c.in_ok-what.ensures.ok c.asked-outcome.ensures (comes-formless g.D.Service.answers _ _ _ _ _ _ _ (rw c.in-Ok.is at c.in_ok-taken.ensures).0 (rw c.in-Ok.is at c.in_ok-taken.ensures).1 (sym (rw (c.as_str.ensures.text, c.in-None.is) at c.in_ok-users.ensures.ok)))

pub returns-in_err-give : goal.returns-in_err-give
returns-in_err-give g c =
    let q = err_from_is_err_and c.from_residual-in_err-give.result c.from_residual-in_err-give.ensures.1 in
    rw (q.1, q.2) (λ members ts. comes-tried g.D.Service.answers _ _ _ _ _ _ _ _ _ _ c.in_ok-what.ensures.ok c.asked-outcome.ensures (comes-unread g.D.Service.answers _ _ _ _ _ _ _ (rw c.in-Ok.is at c.in_ok-taken.ensures).0 (rw c.in-Ok.is at c.in_ok-taken.ensures).1))

pub returns : goal.returns
returns g c = λ members ts e K h. comes-tried g.D.Service.answers _ _ _ _ _ _ _ _ _ _ c.in_ok-what.ensures.ok c.asked-outcome.ensures (comes-taken g.D.Service.answers _ _ _ _ _ _ _ (rw c.in-Ok.is at c.in_ok-taken.ensures).0 (rw c.in-Ok.is at c.in_ok-taken.ensures).1 _ c.in-Some.users.items _ (sym (rw (c.as_str.ensures.text, c.in-Some.is) at c.in_ok-users.ensures.ok)) (rw (rw c.deref.ensures.value at c.in_ok-give.ensures) at h))
