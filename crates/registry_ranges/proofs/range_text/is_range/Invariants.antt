use Rattle.std.proofs.Common.{◌≡◌}
use Rattle.registry_ranges.specs.declared.reader.Place.TheVariants.{Before}
use Rattle.registry_ranges.specs.Steps.{reading, steps}
use Rattle.registry_ranges.proofs.RangeTextFacts.{is_read}
use Rattle.registry_ranges.proofs.range_text.is_range.Given as goal

-- what is left decides
abbrev pub invariant-steps : goal.invariant-steps
invariant-steps l = is_read (reading Before l.text) ≡ is_read (reading l.reader.place l.reader.rest.now)

abbrev pub decreases-steps : goal.decreases-steps
decreases-steps l = steps l.reader.place l.reader.rest.now
