use Rattle.std.proofs.Common.{◌≡◌, ◌++◌, List, option_map}
use Rattle.registry_packument.specs.declared.list.Member.{Member}
use Rattle.registry_npm.proofs.RightFacts.{rows_of}
use Rattle.registry_npm.proofs.rights.members_of.Given as goal

-- the members are those so far, and then those that are left
abbrev pub invariant-loop-name : goal.invariant-loop-name
invariant-loop-name l = rows_of l.entries.entries ≡ option_map (λ (rs : List Member). l.rows.items ++ rs) (rows_of l.name-iterator)
