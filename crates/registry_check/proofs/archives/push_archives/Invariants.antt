use Rattle.std.proofs.Common.{◌≡◌, ◌++◌, map, take}
use Rattle.sqlite.specs.State.{HasCleanDisk}
use Rattle.registry_names.specs.Maps.{entries}
use Rattle.registry_rows.specs.Frames.{Stays}
use Rattle.registry_tables.specs.Effects.{IsAsBefore, shown, stored_in}
use Rattle.registry_check.specs.Problems as spec
use Rattle.registry_check.specs.Problems.{problems_of}
use Rattle.registry_check.specs.Rows.{archive_entry, integrities, rows_of}
use Rattle.registry_check.specs.Rules.{archive_tests}
use Rattle.registry_check.proofs.archives.push_archives.Given as goal

-- the problems of the archives so far are added, and nothing has changed
abbrev pub invariant-loop-row : goal.invariant-loop-row
invariant-loop-row g l = record {
  stays : Stays g.S.Store l.fn.tx l.tx;
  kept : HasCleanDisk (shown g.S.Store l.tx) → IsAsBefore (shown g.S.Store l.fn.tx) (shown g.S.Store l.tx);
  added : HasCleanDisk (shown g.S.Store l.tx) → map archive_entry l.rows ≡ integrities (stored_in g.S.Store l.fn.tx).archives
      → l.problems.items ≡ l.fn.problems.items ++ problems_of spec.archive (archive_tests (rows_of l.all) (stored_in g.S.Store l.fn.tx).archives) (take l.row-index (entries (stored_in g.S.Store l.fn.tx).archives));
}
