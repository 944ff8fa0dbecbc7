use Rattle.registry_ranges.proofs.BoundFacts.{pre-of_part}
use Rattle.registry_ranges.proofs.binding.verdict_of_part.Goals as goal

pub verdict_of_bounds-requires : goal.verdict_of_bounds-requires
verdict_of_bounds-requires c = pre-of_part _ _ c.requires c.bounds_of-bounds.ensures
