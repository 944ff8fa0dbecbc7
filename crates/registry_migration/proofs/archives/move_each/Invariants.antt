use Rattle.std.proofs.Common.{map, take}
use Rattle.sqlite.specs.State.{HasCleanDisk}
use Rattle.registry_rows.specs.Frames.{Stays}
use Rattle.registry_rows.specs.Ready.{Leaves}
use Rattle.registry_tables.specs.Contents.{contents}
use Rattle.registry_tables.specs.Effects.{shown, stored_in}
use Rattle.registry_tables.specs.Schema.{schema}
use Rattle.registry_migration.specs.Steps.{HasMoved, version_key}
use Rattle.registry_migration.proofs.archives.move_each.Given as goal

-- the archives of the versions so far are stored
abbrev pub invariant-loop-version : goal.invariant-loop-version
invariant-loop-version g l = record {
  stays : Stays g.S.Store l.fn.tx l.tx;
  leaves : HasCleanDisk (shown g.S.Store l.tx) → Leaves schema contents (stored_in g.S.Store l.tx) (shown g.S.Store l.tx);
  moved : HasCleanDisk (shown g.S.Store l.tx) → HasMoved (map version_key (take l.version-index l.versions)) (stored_in g.S.Store l.fn.tx) (stored_in g.S.Store l.tx);
}
