use Rattle.std.proofs.Common.{◌≡◌, map, take}
use Rattle.registry_rules.specs.Changes.{change_of}
use Rattle.registry_rules.specs.Effects.{withdrawal_of_all}
use Rattle.registry_rules.specs.Facts.{since_of}
use Rattle.registry_rules.proofs.withdrawals.withdrawal_of_all.Given as goal

-- the tags go, and then the versions so far
abbrev pub invariant-loop-row : goal.invariant-loop-row
invariant-loop-row l = map change_of l.changes.items ≡ withdrawal_of_all l.now l.name (map since_of (take l.row-index l.live)) l.tags
