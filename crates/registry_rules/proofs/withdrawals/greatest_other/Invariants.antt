use Rattle.std.proofs.Common.{◌≡◌, map, option_map, take}
use Rattle.registry_names.specs.Greatest.{greatest}
use Rattle.registry_names.specs.Versions.{text_of_version}
use Rattle.registry_rules.specs.Withdrawals.{others, text_seen}
use Rattle.registry_rules.proofs.withdrawals.greatest_other.Given as goal

-- the greatest of those so far
abbrev pub invariant-loop-other : goal.invariant-loop-other
invariant-loop-other l = option_map text_seen l.best ≡ greatest (others (map text_of_version (take l.other-index l.live)) (text_of_version l.version))
