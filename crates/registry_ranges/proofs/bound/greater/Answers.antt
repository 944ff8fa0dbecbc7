use Rattle.registry_ranges.proofs.bound.greater.Goals as goal

pub returns-in-Minor : goal.returns-in-Minor
returns-in-Minor c = rw c.in-Minor.is c.release-in-Minor.ensures
