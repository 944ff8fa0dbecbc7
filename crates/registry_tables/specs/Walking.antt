-- What contracts see of a walk.
use Rattle.std.specs.Prelude.{List, Option}
use Rattle.std.specs.Borrow.{MutBor}
use Rattle.sqlite.specs.State.{State}
use Rattle.sqlite.specs.declared.rows.stream.Rows.{Rows}
use Rattle.registry_names.specs.declared.stop.Fault.{Fault}
use Rattle.registry_packument.specs.declared.packument.VersionRow.{VersionRow}
use Rattle.registry_tables.specs.Walks.{as_rows, fault_at, rows_after, shown_by}
use Rattle.registry_tables.specs.declared.walk.LiveRows.{Ghosts}
use Rattle.registry_tables.specs.declared.walk.version_walk.VersionWalk.{VersionWalk}

module _ {R : Type 0} (live : Ghosts R) where
  -- the rows that it reads, as they were lent
  abbrev pub lent : VersionWalk R live → MutBor (Rows live.Disk live.store)
  lent walk = as_rows live.store live.rows walk.rows

  -- what their connection shows
  abbrev pub seen_by : VersionWalk R live → State
  seen_by walk = shown_by live.store (lent walk).now

  -- the fault at which it stopped, if it did
  abbrev pub stopped_at : VersionWalk R live → Option Fault
  stopped_at walk = fault_at walk.stage

  -- the rows that it has left
  abbrev pub rows_left : VersionWalk R live → List VersionRow
  rows_left walk = rows_after (seen_by walk) walk.name.now walk.given
