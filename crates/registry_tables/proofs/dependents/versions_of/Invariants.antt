use Rattle.registry_tables.proofs.Words.{◌≡◌, map, take, versions_in, version_text}
use Rattle.registry_tables.proofs.dependents.versions_of.Given as goal

-- the versions so far are read
abbrev pub invariant-loop-row : goal.invariant-loop-row
invariant-loop-row l = l.versions.items ≡ versions_in (map version_text (take l.row-index l.live))
