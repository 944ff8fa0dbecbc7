use Rattle.std.proofs.Common.{◌≡◌, ◌≤◌, ◌==◌, Bool, length, rules}
use Rattle.std.proofs.lemmas.Bool.{le-leb}
use Rattle.semver.specs.Identifiers.{build_text, parts_of}
use Rattle.semver.specs.declared.Version.{Version}
use Rattle.registry_names.specs.VersionReading.{in_profile}
use Rattle.registry_names.specs.Versions.{greatest_number}
use Rattle.registry_names.proofs.version.in_profile.Goals as goal

-- the test of the build metadata decides, where no number is too great
last_test : (v : Version) (last : Bool) → v.major ≤ greatest_number → v.minor ≤ greatest_number → v.patch ≤ greatest_number → last ≡ (length (build_text v.build) == 0) → last ≡ in_profile (parts_of v)
last_test v last major minor patch build = rw (le-leb _ _ major, le-leb _ _ minor, le-leb _ _ patch) build

pub returns-then-version-le-GREATEST_NUMBER-3 : goal.returns-then-version-le-GREATEST_NUMBER-3
returns-then-version-le-GREATEST_NUMBER-3 c = last_test c.args.version.now _ (search rules) (search rules) (search rules) (cc)
