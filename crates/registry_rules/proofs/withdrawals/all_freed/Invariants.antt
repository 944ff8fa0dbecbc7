use Rattle.std.proofs.Common.{◌≡◌, map, option_map, take}
use Rattle.registry_rules.specs.Changes.{change_of}
use Rattle.registry_rules.specs.Effects.{freed}
use Rattle.registry_rules.specs.Withdrawals.{text_seen}
use Rattle.registry_rules.proofs.withdrawals.all_freed.Given as goal

-- the tags so far are freed
abbrev pub invariant-loop-tag : goal.invariant-loop-tag
invariant-loop-tag l = map change_of l.changes.items ≡ map (freed l.name (option_map text_seen l.other)) (take l.tag-index l.tags)
