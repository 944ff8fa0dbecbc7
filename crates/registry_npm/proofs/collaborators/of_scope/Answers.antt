use Rattle.std.proofs.lemmas.Result.{err_from_is_err_and}
use Rattle.registry_npm.proofs.ComesFacts.{comes-starved}
use Rattle.registry_npm.proofs.collaborators.of_scope.Goals as goal

pub returns-in_err-organisation : goal.returns-in_err-organisation
returns-in_err-organisation g c =
    let q = err_from_is_err_and c.from_residual.result c.from_residual.ensures.1 in
    rw (q.1, q.2, c.in_err-organisation.ensures.err) (comes-starved g.D.Service.answers _ _)

pub returns : goal.returns
returns g c = rw c.in_ok-organisation.ensures.ok at c.of_members.ensures
