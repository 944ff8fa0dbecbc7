use Rattle.std.proofs.Common.{ap, sym, ◌∙◌}
use Rattle.registry_ranges.specs.Intervals.{meet}
use Rattle.registry_ranges.proofs.RangeTextFacts.{part-shorter, fresh-shorter, part-valid}
use Rattle.registry_ranges.proofs.SelectorFacts.{condition-asked, reads-end, reads-no_part, reads-none, reads-or, reads-part, reads-wrong}
use Rattle.registry_ranges.proofs.selector.Selector.read.Goals as goal

pub unreachable-requires : goal.unreachable-requires
unreachable-requires c = reads-no_part _ _ _ _ _ _ c.steps.range c.steps.intervals.items c.steps.invariant c.in-Part.ensures (sym c.in_default.ensures) c.requires

pub of-requires : goal.of-requires
of-requires c = condition-asked _ _ (part-valid _ _ _ _ _ c.in-Part.ensures) (sym c.in-Some.ensures)

pub steps-smaller-in-Part : goal.steps-smaller-in-Part
steps-smaller-in-Part c = part-shorter _ _ _ _ _ c.in-Part.ensures

pub unreachable-requires-in-Wrong : goal.unreachable-requires-in-Wrong
unreachable-requires-in-Wrong c = reads-wrong _ _ _ c.steps.range c.steps.intervals.items c.steps.invariant c.in-Wrong.ensures c.requires

pub steps-smaller : goal.steps-smaller
steps-smaller c = fresh-shorter _ _ _ _ _ c.in-Or.ensures c.new-reader-in-Or.ensures.place c.new-reader-in-Or.ensures.rest

pub steps-init : goal.steps-init
steps-init c = reads-none _ _ _ _ _ c.new-reader.ensures.place (c.new-reader.ensures.rest ∙ c.as_bytes.ensures.value) c.whole-range.ensures c.new-intervals.ensures.items

pub steps-preserved-in-Part : goal.steps-preserved-in-Part
steps-preserved-in-Part c = reads-part _ _ _ _ _ _ _ c.steps.range _ _ c.steps.invariant c.in-Part.ensures (sym c.in-Some.ensures) (c.meet-range.ensures ∙ ap (meet c.steps.range) c.in_ok-asked-in-Part.ensures.ok)

pub steps-preserved : goal.steps-preserved
steps-preserved c = reads-or _ _ _ _ _ _ c.steps.range _ c.steps.intervals.items _ c.steps.invariant c.in-Or.ensures c.in_ok-limit-in-Or.ensures.ok c.whole-range-in-Or.ensures c.new-reader-in-Or.ensures.place c.new-reader-in-Or.ensures.rest

pub new-requires-clause-read : goal.new-requires-clause-read
new-requires-clause-read c = (reads-end _ _ _ c.steps.range c.steps.intervals.items c.steps.invariant c.in-End.ensures).0

pub new-requires-clause-cover : goal.new-requires-clause-cover
new-requires-clause-cover c = (reads-end _ _ _ c.steps.range c.steps.intervals.items c.steps.invariant c.in-End.ensures).1
