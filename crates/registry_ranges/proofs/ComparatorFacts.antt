-- A prerelease's text is ASCII, and `semver` reads it as it is.
use Rattle.std.proofs.Common.{◌≡◌, ◌<◌, ℕ, zero, suc, List, [], ◌∷◌, true, arith}
use Rattle.std.proofs.lemmas.Bool.Decides.{nat_tests}
use Rattle.std.proofs.lemmas.Str.{IsUtf8-from_ascii}
use Rattle.std.specs.List.{list_all}
use Rattle.std.specs.Str.{IsAscii, IsUtf8}
use Rattle.semver.specs.Grammar.{is_pre_release}
use Rattle.semver.proofs.Grammar.{is_pre_release-only}
use Rattle.semver.proofs.Segments.{and-left, and-right}
use Rattle.registry_ranges.specs.Reading.{is_run_byte}
use Rattle.registry_ranges.proofs.PartialFacts.{pre-run}

run-ascii : (b : ℕ) → is_run_byte b ≡ true → b < 128
run-ascii b h = grind (arith, nat_tests)

all-ascii : (t : List ℕ) → list_all is_run_byte t ≡ true → IsAscii t
all-ascii [] h i = omega arith
all-ascii (b ∷ t) h zero = run-ascii b (and-left (is_run_byte b) (list_all is_run_byte t) h)
all-ascii (b ∷ t) h (suc i) = all-ascii t (and-right (is_run_byte b) (list_all is_run_byte t) h) i

pub pre-utf8 : (t : List ℕ) → is_pre_release t ≡ true → IsUtf8 t
pre-utf8 t h = IsUtf8-from_ascii t (all-ascii t (pre-run t h))

pub ruleset prerelease_facts = (pre-utf8, is_pre_release-only)
