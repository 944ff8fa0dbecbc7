use Rattle.std.proofs.Common.{◌≡◌, drop}
use Rattle.registry_access.specs.Levels.{larger}
use Rattle.registry_npm.specs.Collaborators.{level_said}
use Rattle.registry_npm.proofs.rights.level_said.Given as goal

-- the level is the larger of that so far and of what is left
abbrev pub invariant-loop-row : goal.invariant-loop-row
invariant-loop-row l = larger l.said (level_said l.name (drop l.row-index l.rows)) ≡ level_said l.name l.rows
