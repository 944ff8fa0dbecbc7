use Rattle.registry_ranges.proofs.BoundFacts.{second-pre}
use Rattle.registry_ranges.proofs.binding.verdict_of_bounds.Goals as goal

pub verdict_of_bound-requires-in-Some : goal.verdict_of_bound-requires-in-Some
verdict_of_bound-requires-in-Some c = second-pre _ _ _ c.in-Some.is c.requires
