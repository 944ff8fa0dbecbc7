use Rattle.std.proofs.Common.{◌≡◌, ◌++◌, take}
use Rattle.registry_check.specs.Problems.{broken}
use Rattle.registry_check.proofs.checked.push_faults.Given as goal

-- the rules so far that don't hold are added
abbrev pub invariant-loop-test : goal.invariant-loop-test
invariant-loop-test g l = l.problems.items ≡ l.fn.problems.items ++ broken (g.K.Checked.about (g.K.Checked.entry l.row)) (take l.test-index l.tests)
