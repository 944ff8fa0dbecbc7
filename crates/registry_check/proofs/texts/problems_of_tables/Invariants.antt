use Rattle.std.proofs.Common.{◌≡◌, ◌<◌, IsTrue, take}
use Rattle.std.specs.List.{flat_map}
use Rattle.sqlite.specs.State.{HasCleanDisk}
use Rattle.registry_rows.specs.Frames.{Stays}
use Rattle.registry_tables.specs.Effects.{IsAsBefore, shown}
use Rattle.registry_check.specs.Readable.{table_problems}
use Rattle.registry_check.proofs.texts.problems_of_tables.Given as goal

-- the problems of the tables so far are there, and nothing has changed
abbrev pub invariant-loop-table : goal.invariant-loop-table
invariant-loop-table g l = record {
  stays : Stays g.S.Store l.fn.tx l.tx;
  kept : HasCleanDisk (shown g.S.Store l.tx) → IsAsBefore (shown g.S.Store l.fn.tx) (shown g.S.Store l.tx);
  was_open : HasCleanDisk (shown g.S.Store l.tx) → 0 < l.table-index → IsTrue (shown g.S.Store l.fn.tx).is_open;
  added : HasCleanDisk (shown g.S.Store l.tx) → l.problems.items ≡ flat_map (table_problems (shown g.S.Store l.fn.tx).now.trees) (take l.table-index l.tables);
}
