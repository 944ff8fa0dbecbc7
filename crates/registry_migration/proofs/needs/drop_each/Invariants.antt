use Rattle.std.proofs.Common.{map, take}
use Rattle.sqlite.specs.State.{HasCleanDisk}
use Rattle.registry_rows.specs.Frames.{Stays}
use Rattle.registry_rows.specs.Ready.{Leaves}
use Rattle.registry_tables.specs.Contents.{contents}
use Rattle.registry_tables.specs.Effects.{shown, stored_in}
use Rattle.registry_tables.specs.Schema.{schema}
use Rattle.registry_migration.specs.Steps.{HasDropped, target_key}
use Rattle.registry_migration.proofs.needs.drop_each.Given as goal

-- the needs so far are gone
abbrev pub invariant-loop-target : goal.invariant-loop-target
invariant-loop-target g l = record {
  stays : Stays g.S.Store l.fn.tx l.tx;
  leaves : HasCleanDisk (shown g.S.Store l.tx) → Leaves schema contents (stored_in g.S.Store l.tx) (shown g.S.Store l.tx);
  dropped : HasCleanDisk (shown g.S.Store l.tx) → HasDropped (map target_key (take l.target-index l.targets)) (stored_in g.S.Store l.fn.tx) (stored_in g.S.Store l.tx);
}
