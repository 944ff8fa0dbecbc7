use Rattle.std.proofs.Common.{◌≡◌, [], take, unwrap_or}
use Rattle.std.specs.List.{flat_map}
use Rattle.registry_publish.specs.Needs.{needs_of}
use Rattle.registry_check.specs.declared.tables.LiveRow.{LiveRow}
use Rattle.registry_check.proofs.named.needs_of_rows.Given as goal

-- the needs of the rows so far
abbrev pub invariant-loop-row : goal.invariant-loop-row
invariant-loop-row l = l.needs.items ≡ flat_map (λ (r : LiveRow). unwrap_or (needs_of r.manifest) []) (take l.row-index l.rows)
