use Rattle.registry_ranges.proofs.BoundFacts.{pre-of_part}
use Rattle.registry_ranges.proofs.many.within_part.Goals as goal

pub within_all-requires-clause-pre : goal.within_all-requires-clause-pre
within_all-requires-clause-pre c = pre-of_part _ _ c.requires.part c.bounds_of-bounds.ensures
