-- Places in the order of versions whose prerelease is borrowed, as the definitions see them.
use Rattle.semver.specs.Identifiers.{pre_text}
use Rattle.registry_ranges.specs.declared.end.At.{At}
use Rattle.registry_ranges.specs.Intervals.{End}

abbrev pub at_view : At → End
at_view a = record { major = a.major; minor = a.minor; patch = a.patch; place = a.place; pre = pre_text a.pre.now }
