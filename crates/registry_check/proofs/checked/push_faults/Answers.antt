use Rattle.std.proofs.Common.{◌∙◌, ◌++◌, ap, append-nil, sym, take_all}
use Rattle.registry_check.specs.Problems.{broken, fault_of}
use Rattle.registry_check.proofs.StepFacts.{added, flat_next}
use Rattle.registry_check.proofs.checked.push_faults.Goals as goal

pub loop-test-preserved : goal.loop-test-preserved
loop-test-preserved g c =
    added _ _ _ _ _ _ c.loop-test.invariant c.in_ok-push_fault.ensures
    (flat_next (fault_of (g.K.Checked.about (g.K.Checked.entry c.args.row.now))) c.args.tests.now c.loop-test.test-index _ c.loop-test-test.true)

pub loop-test-init : goal.loop-test-init
loop-test-init g c = sym (append-nil c.args.problems.now.items)

pub returns : goal.returns
returns g c =
    c.loop-test.invariant
    ∙ ap (λ tests. c.args.problems.now.items ++ broken (g.K.Checked.about (g.K.Checked.entry c.args.row.now)) tests) (take_all c.loop-test.test-index c.args.tests.now c.loop-test-test.false)
