use Rattle.std.proofs.Common.{◌≡◌, drop}
use Rattle.semver.specs.Parse.{digits_from}
use Rattle.semver.specs.declared.error.Position.TheVariants as place
use Rattle.registry_ranges.proofs.number.number_at.Given as goal

abbrev pub invariant-digits : goal.invariant-digits
invariant-digits l = digits_from place.Major 0 0 l.bytes ≡ digits_from place.Major l.value l.i (drop l.i l.bytes)
