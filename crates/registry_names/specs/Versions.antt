-- Versions of SemVer 2.0.0 without build metadata, of at most 256 characters, with numbers below
-- 2^53.
use Rattle.std.specs.Prelude.{◌≡◌, ◌≤◌, ℕ, true, List, [], length}
use Rattle.std.specs.Ordering.{nat_cmp, ordering_then}
use Rattle.std.specs.declared.cmp.Ordering.{Ordering}
use Rattle.semver.specs.Grammar.{is_pre_release}
use Rattle.semver.specs.Identifiers.{parts_text, pre_text}
use Rattle.semver.specs.Order.{pre_cmp}
use Rattle.semver.specs.declared.Version.{Version}

-- the three numbers, and the prerelease, which is empty for a release
pub record VersionParts : Type 0 where
  pub major : ℕ
  pub minor : ℕ
  pub patch : ℕ
  pub pre : List ℕ

-- the parts of a version as the crate `semver` holds it, its build metadata left out
abbrev pub version_parts : Version → VersionParts
version_parts v = record { major = v.major; minor = v.minor; patch = v.patch; pre = pre_text v.pre }

-- 2^53 - 1, the greatest number that every JavaScript client reads as it is
abbrev pub greatest_number : ℕ
greatest_number = 9007199254740991

abbrev pub longest_version : ℕ
longest_version = 256

-- the numbers in decimal with dots between, and after a hyphen the prerelease
abbrev pub text_of_version : VersionParts → List ℕ
text_of_version v = parts_text (v.major, v.minor, v.patch, v.pre, [])

-- the text is the version of these parts
abbrev pub IsVersionOf : List ℕ → VersionParts → Type 0
IsVersionOf t v = (t ≡ text_of_version v) × (length t ≤ longest_version) × (v.major ≤ greatest_number)
    × (v.minor ≤ greatest_number) × (v.patch ≤ greatest_number) × (is_pre_release v.pre ≡ true)

-- the text is a version
abbrev pub IsVersion : List ℕ → Type 0
IsVersion t = (v : VersionParts) × IsVersionOf t v

-- Precedence (SemVer 2.0.0, item 11): by the numbers in turn, then by the prerelease. A version
-- without a prerelease is above those with one.
abbrev pub precedence : VersionParts → VersionParts → Ordering
precedence a b = ordering_then (nat_cmp a.major b.major) (ordering_then (nat_cmp a.minor b.minor)
    (ordering_then (nat_cmp a.patch b.patch) (pre_cmp a.pre b.pre)))
