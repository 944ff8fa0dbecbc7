use Rattle.std.proofs.Common.{◌≡◌}
use Rattle.registry_ranges.specs.declared.reader.Place.TheVariants.{Before}
use Rattle.registry_ranges.specs.Steps.{steps}
use Rattle.registry_ranges.proofs.SelectorFacts.{is_selectable}
use Rattle.registry_ranges.proofs.selector.is_selector.Given as goal

-- what is left decides
abbrev pub invariant-steps : goal.invariant-steps
invariant-steps l = is_selectable Before l.text ≡ is_selectable l.reader.place l.reader.rest.now

abbrev pub decreases-steps : goal.decreases-steps
decreases-steps l = steps l.reader.place l.reader.rest.now
