use Rattle.std.proofs.Common.{sym, true, false, ◌∙◌}
use Rattle.registry_ranges.proofs.RangeTextFacts.{part-shorter, fresh-shorter}
use Rattle.registry_ranges.proofs.SelectorFacts.{select-part, select-no_part, select-or, select-end, select-wrong, selector-iff}
use Rattle.registry_ranges.proofs.selector.is_selector.Goals as goal

pub returns-in_default : goal.returns-in_default
returns-in_default c = selector-iff _ false (c.steps.invariant ∙ select-no_part _ _ _ _ _ c.in-Part.ensures (sym c.in_default.ensures))

pub steps-smaller-in-Part : goal.steps-smaller-in-Part
steps-smaller-in-Part c = part-shorter _ _ _ _ _ c.in-Part.ensures

pub steps-preserved-in-Part : goal.steps-preserved-in-Part
steps-preserved-in-Part c = c.steps.invariant ∙ select-part _ _ _ _ _ _ c.in-Part.ensures (sym c.in-Some.ensures)

pub steps-smaller : goal.steps-smaller
steps-smaller c = fresh-shorter _ _ _ _ _ c.in-Or.ensures c.new-reader-in-Or.ensures.place c.new-reader-in-Or.ensures.rest

pub steps-preserved : goal.steps-preserved
steps-preserved c = c.steps.invariant ∙ select-or _ _ _ _ _ c.in-Or.ensures c.new-reader-in-Or.ensures.place c.new-reader-in-Or.ensures.rest

pub returns-in-End : goal.returns-in-End
returns-in-End c = selector-iff _ true (c.steps.invariant ∙ select-end _ _ c.in-End.ensures)

pub returns-in-Wrong : goal.returns-in-Wrong
returns-in-Wrong c = selector-iff _ false (c.steps.invariant ∙ select-wrong _ _ c.in-Wrong.ensures)
