use Rattle.std.proofs.Common.{take}
use Rattle.sqlite.specs.State.{HasCleanDisk}
use Rattle.registry_rows.specs.Frames.{Stays}
use Rattle.registry_rows.specs.Ready.{Leaves}
use Rattle.registry_tables.specs.Contents.{contents}
use Rattle.registry_tables.specs.Effects.{shown, stored_in}
use Rattle.registry_tables.specs.Schema.{schema}
use Rattle.registry_migration.specs.Steps.{version_key, without_targets}
use Rattle.registry_migration.proofs.needs.drop_targets_of.Given as goal

-- the targets so far are gone
abbrev pub invariant-loop-need : goal.invariant-loop-need
invariant-loop-need g l = record {
  stays : Stays g.S.Store l.fn.tx l.tx;
  made : HasCleanDisk (shown g.S.Store l.tx) → Leaves schema contents (record (stored_in g.S.Store l.fn.tx) { needs = without_targets (stored_in g.S.Store l.fn.tx).needs (version_key l.version) (take l.need-index l.needs) }) (shown g.S.Store l.tx);
}
