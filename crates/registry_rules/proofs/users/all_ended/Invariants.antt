use Rattle.std.proofs.Common.{◌≡◌, map, take}
use Rattle.registry_rules.specs.Changes.{change_of, DropToken}
use Rattle.registry_rules.proofs.users.all_ended.Given as goal

-- the tokens so far end
abbrev pub invariant-loop-digest : goal.invariant-loop-digest
invariant-loop-digest l = map change_of l.changes.items ≡ map DropToken (take l.digest-index l.digests)
