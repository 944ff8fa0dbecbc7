use Rattle.std.proofs.Common.{sym, ap, ◌∙◌}
use Rattle.registry_rules.specs.declared.request.Request.{Request}
use Rattle.registry_npm.specs.Forms.{teams_form}
use Rattle.registry_npm.specs.Leading.{shown_as}
use Rattle.registry_npm.specs.Callers.{who_of}
use Rattle.registry_npm.proofs.ComesFacts.{comes-alone, comes-asked, comes-read, comes-stopped, same-teams}
use Rattle.registry_npm.proofs.following.teams_of.Goals as goal

pub returns-in-Err : goal.returns-in-Err
returns-in-Err g c = comes-stopped g.D.Service.answers _ _ _ c.in-Err.stop _ c.in-Err.ensures c.stopped.ensures

pub returns : goal.returns
returns g c =
    let same = same-teams c.in-Teams.organisation c.args.organisation (sym c.in-Teams.is ∙ ap (λ (r : Request). r.what) c.request-request.ensures) in
    comes-read g.D.Service.answers _ _ _ _ (who_of c.in-Ok.who) _ c.in-Ok.ensures (comes-asked g.D.Service.answers _ _ _ _ _ _ _ _ c.request-request.ensures c.answer-outcome.ensures
    (comes-alone g.D.Service.answers _ (shown_as (teams_form c.args.organisation) c.answer-outcome.result) _ (rw same at c.teams.ensures)))
