use Rattle.registry_ranges.proofs.ReadingFacts.{unambiguous}
use Rattle.registry_ranges.proofs.range.Range.parse.Goals as goal

pub returns-then-not-is_range-clause-unambiguous : goal.returns-then-not-is_range-clause-unambiguous
returns-then-not-is_range-clause-unambiguous c = unambiguous _

pub returns-clause-unambiguous : goal.returns-clause-unambiguous
returns-clause-unambiguous c = unambiguous _
