use Rattle.std.proofs.Common.{sym, false, ◌∙◌}
use Rattle.registry_ranges.proofs.RangeTextFacts.{range-is, read-wrong}
use Rattle.registry_ranges.proofs.range_text.is_range.Goals as goal

pub returns-in-Wrong : goal.returns-in-Wrong
returns-in-Wrong c = range-is _ false (sym (c.steps.invariant ∙ read-wrong _ _ c.in-Wrong.ensures))
