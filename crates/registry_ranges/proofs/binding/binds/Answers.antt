use Rattle.std.proofs.Common.{sym, ◌∙◌}
use Rattle.registry_ranges.proofs.BindingFacts.{binds-part, binds-allowed, binds-or, binds-end, binds-wrong, answer-means}
use Rattle.registry_ranges.proofs.RangeTextFacts.{part-shorter, fresh-shorter, part-valid}
use Rattle.registry_ranges.proofs.binding.binds.Goals as goal

pub with_part-requires : goal.with_part-requires
with_part-requires c = part-valid _ _ _ _ _ c.in-Part.ensures

pub steps-smaller-in-Part : goal.steps-smaller-in-Part
steps-smaller-in-Part c = part-shorter _ _ _ _ _ c.in-Part.ensures

pub steps-preserved-in-Part : goal.steps-preserved-in-Part
steps-preserved-in-Part c =
    c.steps.invariant ∙ binds-part _ _ _ _ _ _ _ _ _ _ c.in-Part.ensures c.in_ok-verdict-in-Part.ensures.holds c.in_ok-verdict-in-Part.ensures.near

pub returns-then-allows-clause-ok : goal.returns-then-allows-clause-ok
returns-then-allows-clause-ok c = sym (c.steps.invariant ∙ binds-allowed _ _ _ _ _ _ c.in-Or.ensures (sym c.allows.ensures ∙ c.if-allows.true))

pub returns-then-allows-clause-meaning : goal.returns-then-allows-clause-meaning
returns-then-allows-clause-meaning c = answer-means _ _ _ (returns-then-allows-clause-ok c)

pub steps-smaller : goal.steps-smaller
steps-smaller c = fresh-shorter _ _ _ _ _ c.in-Or.ensures c.new-reader-in-Or.ensures.place c.new-reader-in-Or.ensures.rest

pub steps-preserved : goal.steps-preserved
steps-preserved c =
    c.steps.invariant ∙ binds-or _ _ _ _ _ _ _ _ _ _ c.in-Or.ensures (sym c.allows.ensures ∙ c.if-allows.false) c.none-verdict-in-Or.ensures.holds c.none-verdict-in-Or.ensures.near
    c.new-reader-in-Or.ensures.place c.new-reader-in-Or.ensures.rest

pub returns-in-End-clause-ok : goal.returns-in-End-clause-ok
returns-in-End-clause-ok c = c.allows-in-End.ensures ∙ sym (c.steps.invariant ∙ binds-end _ _ _ _ _ c.in-End.ensures)

pub returns-in-End-clause-meaning : goal.returns-in-End-clause-meaning
returns-in-End-clause-meaning c = answer-means _ _ _ (returns-in-End-clause-ok c)

pub returns-in-Wrong-clause-ok : goal.returns-in-Wrong-clause-ok
returns-in-Wrong-clause-ok c = sym (c.steps.invariant ∙ binds-wrong _ _ _ _ _ c.in-Wrong.ensures)

pub returns-in-Wrong-clause-meaning : goal.returns-in-Wrong-clause-meaning
returns-in-Wrong-clause-meaning c = answer-means _ _ _ (returns-in-Wrong-clause-ok c)
