use Rattle.std.proofs.Common.{◌≡◌, ◌++◌, List, option_map}
use Rattle.registry_packument.specs.declared.list.PackageLevel.{PackageLevel}
use Rattle.registry_npm.proofs.FormFacts.{rows_of}
use Rattle.registry_npm.proofs.forms.levels_of.Given as goal

-- the rows are those so far, and then those that are left
abbrev pub invariant-loop-name : goal.invariant-loop-name
invariant-loop-name l = rows_of l.members.entries ≡ option_map (λ (rs : List PackageLevel). l.rows.items ++ rs) (rows_of l.name-iterator)
