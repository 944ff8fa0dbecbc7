use Rattle.registry_ranges.specs.Steps.{steps}
use Rattle.registry_ranges.proofs.ManyFacts.{Reads}
use Rattle.registry_ranges.proofs.many.binds_any.Given as goal

-- what was read of a range and what is left decide
abbrev pub invariant-steps : goal.invariant-steps
invariant-steps l = Reads l.text l.versions l.left l.near.items l.reader.place l.reader.rest.now

abbrev pub decreases-steps : goal.decreases-steps
decreases-steps l = steps l.reader.place l.reader.rest.now
