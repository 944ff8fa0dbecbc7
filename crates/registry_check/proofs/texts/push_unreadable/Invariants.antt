use Rattle.std.proofs.Common.{◌≡◌, ◌++◌, map, take}
use Rattle.registry_check.specs.Readable.{text_entry, unreadable}
use Rattle.registry_check.proofs.texts.push_unreadable.Given as goal

-- the rows so far are added
abbrev pub invariant-loop-row : goal.invariant-loop-row
invariant-loop-row l = l.problems.items ≡ l.fn.problems.items ++ unreadable l.table (map text_entry (take l.row-index l.rows))
