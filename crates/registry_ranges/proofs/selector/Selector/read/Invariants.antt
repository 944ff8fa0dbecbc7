use Rattle.registry_ranges.specs.Steps.{steps}
use Rattle.registry_ranges.proofs.SelectorFacts.{ReadsOn}
use Rattle.registry_ranges.proofs.selector.Selector.read.Given as goal

-- what was read and what is left make the whole
abbrev pub invariant-steps : goal.invariant-steps
invariant-steps l = ReadsOn l.text l.reader.place l.reader.rest.now l.range l.intervals.items

abbrev pub decreases-steps : goal.decreases-steps
decreases-steps l = steps l.reader.place l.reader.rest.now
