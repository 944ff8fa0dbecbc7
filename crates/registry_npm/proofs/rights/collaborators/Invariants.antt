use Rattle.std.proofs.Common.{◌≡◌, ◌++◌, drop, map}
use Rattle.std.specs.List.{filter}
use Rattle.registry_access.specs.Levels.{reads}
use Rattle.registry_packument.specs.declared.list.PackageLevel.{PackageLevel}
use Rattle.registry_npm.specs.Collaborators.{collaborators, rights_of}
use Rattle.registry_npm.proofs.rights.collaborators.Given as goal

-- the rows so far, and then those of the members that are left
abbrev pub invariant-loop-member : goal.invariant-loop-member
invariant-loop-member l = l.rows.items ++ filter (λ (r : PackageLevel). reads r.level) (map (rights_of l.granted) (drop l.member-index l.members)) ≡ collaborators l.members l.granted
