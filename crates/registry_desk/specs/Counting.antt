-- What SQLite counts for in a registry's tables: only the archives, for good.
use Rattle.std.specs.Prelude.{◌≡◌}
use Rattle.sqlite_trees.specs.Tree.{Trees}
use Rattle.registry_rules.specs.declared.request.Request.{Request}
use Rattle.registry_tables.specs.Contents.{Contents}
use Rattle.registry_tables.specs.Fresh.{CountsArchivesAlone}
use Rattle.registry_laws_history.specs.Runs.{Outcome}
use Rattle.registry_desk.specs.Opened.{GivesFound}
use Rattle.registry_desk.specs.Resting.{next_stored, settled_by}

-- an open finds it so, or makes it so
abbrev pub OpensCountArchivesAlone : Type 0
OpensCountArchivesAlone = (db : Trees) (c : Contents) → GivesFound db c → CountsArchivesAlone c

-- an outcome leaves the other rows as they were
abbrev pub OutcomesKeepCounters : Type 0
OutcomesKeepCounters = (r : Request) (o : Outcome) (c : Contents) → (next_stored r o c).counters ≡ c.counters

-- and so does what a request may have settled before a stop
abbrev pub StopsKeepCounters : Type 0
StopsKeepCounters = (r : Request) (c : Contents) → (settled_by r c).counters ≡ c.counters
