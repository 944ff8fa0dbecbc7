use Rattle.std.proofs.Common.{◌≡◌, map, take}
use Rattle.registry_names.specs.Versions.{text_of_version}
use Rattle.registry_rules.specs.Changes.{change_of}
use Rattle.registry_rules.specs.Effects as effects
use Rattle.registry_rules.specs.Withdrawals.{selected}
use Rattle.registry_rules.proofs.withdrawals.deprecation.Given as goal

-- those so far have the message where they are selected
abbrev pub invariant-loop-version : goal.invariant-loop-version
invariant-loop-version l = map change_of l.changes.items ≡ effects.deprecation l.name l.message (selected (map text_of_version (take l.version-index l.live)) l.selector)
