use Rattle.std.proofs.Common.{◌∙◌, ◌++◌, ap, append-nil, map, sym, take_all}
use Rattle.registry_check.specs.Problems.{broken, problems_of}
use Rattle.registry_check.specs.Rows.{rows_of}
use Rattle.registry_check.proofs.StepFacts.{added, mapped_next}
use Rattle.registry_check.proofs.checked.push_problems.Goals as goal

pub loop-row-preserved : goal.loop-row-preserved
loop-row-preserved g c =
    added _ _ _ _ _ _ c.loop-row.invariant c.in_ok-push_broken.ensures
    (mapped_next g.K.Checked.entry (λ e. broken (g.K.Checked.about e) (g.K.Checked.tried (rows_of c.args.all.now) e)) c.args.rows.now c.loop-row.row-index c.row-item.result c.loop-row-test.true c.row-item.is)

pub loop-row-init : goal.loop-row-init
loop-row-init g c = sym (append-nil c.args.problems.now.items)

pub returns : goal.returns
returns g c =
    c.loop-row.invariant
    ∙ ap (λ rows. c.args.problems.now.items ++ problems_of g.K.Checked.about (g.K.Checked.tried (rows_of c.args.all.now)) (map g.K.Checked.entry rows)) (take_all c.loop-row.row-index c.args.rows.now c.loop-row-test.false)
