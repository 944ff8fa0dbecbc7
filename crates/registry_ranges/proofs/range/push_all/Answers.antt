use Rattle.registry_ranges.proofs.BoundFacts.{second-pre}
use Rattle.registry_ranges.proofs.range.push_all.Goals as goal

pub push-requires-in-Some : goal.push-requires-in-Some
push-requires-in-Some c = second-pre _ _ _ c.in-Some.is c.requires
