use Rattle.registry_tables.proofs.Words.{◌≡◌, map, take}
use Rattle.registry_packument.specs.Heads.{time_entry}
use Rattle.registry_rules.specs.Facts.{since_of}
use Rattle.registry_tables.proofs.versions.with_moments.Given as goal

-- the versions so far are read
abbrev pub invariant-loop-time : goal.invariant-loop-time
invariant-loop-time l = map since_of l.live.items ≡ map time_entry (take l.time-index l.times)
