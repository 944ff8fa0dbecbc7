use Rattle.std.proofs.Common.{◌≡◌}
use Rattle.registry_ranges.specs.Steps.{reading, steps}
use Rattle.registry_ranges.specs.Texts.{binds}
use Rattle.registry_ranges.proofs.BindingFacts.{binds_with}
use Rattle.registry_ranges.proofs.binding.binds.Given as goal

-- what was read of a range and what is left decide
abbrev pub invariant-steps : goal.invariant-steps
invariant-steps l = binds l.text l.version ≡ binds_with l.version l.verdict.all_hold l.verdict.any_is_near (reading l.reader.place l.reader.rest.now)

abbrev pub decreases-steps : goal.decreases-steps
decreases-steps l = steps l.reader.place l.reader.rest.now
