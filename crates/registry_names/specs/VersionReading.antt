-- What the registry asks, beyond SemVer's grammar, of the parts of a version that are read.
use Rattle.std.specs.Prelude.{Bool, ◌&&◌, ◌==◌, nat_le, length}
use Rattle.semver.specs.Parse.{Parts}
use Rattle.registry_names.specs.Versions.{greatest_number}

-- no number is too great, and there is no build metadata
abbrev pub in_profile : Parts → Bool
in_profile p = nat_le p.0 greatest_number && nat_le p.1 greatest_number && nat_le p.2 greatest_number && length p.4 == 0
