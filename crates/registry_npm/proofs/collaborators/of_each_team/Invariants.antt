use Rattle.std.proofs.Common.{[], drop}
use Rattle.registry_npm.specs.Callers.{who_of}
use Rattle.registry_npm.specs.Collaborators.{Follows, asks_teams}
use Rattle.registry_npm.proofs.collaborators.of_each_team.Given as goal

-- what comes of the teams that are left comes of all
abbrev pub invariant-loop-team : goal.invariant-loop-team
invariant-loop-team g l =
    let about = l.about in
    let asks = asks_teams about.package.now about.organisation.now about.at (who_of about.who.now) l.members in
    Follows g.D.Service.answers l.fn.service (asks l.teams l.fn.left []) l.service (asks (drop l.team-index l.teams) l.left l.granted.items)
