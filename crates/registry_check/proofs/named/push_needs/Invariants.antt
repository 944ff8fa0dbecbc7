use Rattle.std.proofs.Common.{◌≡◌, ◌++◌, map, take}
use Rattle.std.specs.Prelude.{IfSome}
use Rattle.registry_check.specs.Naming.{NamesAll}
use Rattle.registry_check.specs.Problems.{need, problems_of}
use Rattle.registry_check.specs.Rows.{need_entry, rows_of}
use Rattle.registry_check.specs.Rules.{need_tests}
use Rattle.registry_check.specs.declared.named.Named.{Named}
use Rattle.registry_check.proofs.named.push_needs.Given as goal

-- the problems of the rows so far are added, and what was read last is what the manifest names
abbrev pub invariant-loop-row : goal.invariant-loop-row
invariant-loop-row l = record {
  added : l.problems.items ≡ l.fn.problems.items ++ problems_of need (need_tests (rows_of l.all)) (map need_entry (take l.row-index l.rows));
  last : IfSome l.last (λ (n : Named). NamesAll (rows_of l.all) (n.package, n.version) n.needs.items);
}
