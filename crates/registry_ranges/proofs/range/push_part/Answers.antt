use Rattle.registry_ranges.proofs.BoundFacts.{pre-of_part}
use Rattle.registry_ranges.proofs.range.push_part.Goals as goal

pub push_all-requires : goal.push_all-requires
push_all-requires c = pre-of_part _ _ c.requires c.bounds_of-bounds.ensures
