use Rattle.std.proofs.Common.{◌≡◌, ◌++◌, drop, map}
use Rattle.registry_npm.specs.Forms.{team_text}
use Rattle.registry_npm.proofs.forms.team_texts.Given as goal

-- those so far, and then what is made of those that are left
abbrev pub invariant-loop-team : goal.invariant-loop-team
invariant-loop-team l = l.texts.items ++ map (team_text l.organisation) (drop l.team-index l.teams) ≡ map (team_text l.organisation) l.teams
