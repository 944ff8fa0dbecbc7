use Rattle.std.proofs.Common.{◌+◌, [], List, drop, subst}
use Rattle.std.proofs.lemmas.Result.{err_from_is_err_and}
use Rattle.std.proofs.lemmas.List.{drop_all}
use Rattle.registry_packument.specs.declared.list.PackageLevel.{PackageLevel}
use Rattle.registry_npm.specs.Collaborators.{collaborators_text}
use Rattle.registry_npm.specs.Leading.{shows}
use Rattle.registry_npm.proofs.CollaboratorFacts.{rest-of}
use Rattle.registry_npm.proofs.ComesFacts.{comes-alone}
use Rattle.registry_npm.proofs.collaborators.of_each_team.Goals as goal

pub returns-in_err-rest : goal.returns-in_err-rest
returns-in_err-rest g c =
    let q = err_from_is_err_and c.from_residual.result c.from_residual.ensures.1 in
    rw (q.1, q.2) (c.loop-team.invariant _ _ (rw (rest-of c.args.teams.now c.loop-team.team-index c.team-item.result c.loop-team-test.true c.team-item.is) (c.in_err-rest.ensures c.args.members.now (drop (c.loop-team.team-index + 1) c.args.teams.now))))

pub returns-in-Err : goal.returns-in-Err
returns-in-Err g c = c.loop-team.invariant _ _ (rw (rest-of c.args.teams.now c.loop-team.team-index c.team-item.result c.loop-team-test.true c.team-item.is) ((rw c.in-Err.is at c.in_ok-rest.ensures) c.args.members.now (drop (c.loop-team.team-index + 1) c.args.teams.now)))

pub loop-team-preserved : goal.loop-team-preserved
loop-team-preserved g c = λ e K h. c.loop-team.invariant e K (rw (rest-of c.args.teams.now c.loop-team.team-index c.team-item.result c.loop-team-test.true c.team-item.is) ((rw c.in-Ok.is at c.in_ok-rest.ensures) c.args.members.now (drop (c.loop-team.team-index + 1) c.args.teams.now) e K h))

pub returns : goal.returns
returns g c = c.loop-team.invariant _ _ (rw (drop_all c.loop-team.team-index c.args.teams.now c.loop-team-test.false) (comes-alone g.D.Service.answers _ (shows (collaborators_text c.args.members.now c.loop-team.granted.items)) c.shown_rights.result (subst (λ (rows : List PackageLevel). shows (collaborators_text c.args.members.now rows) [] c.shown_rights.result) c.deref.ensures.value c.shown_rights.ensures)))
