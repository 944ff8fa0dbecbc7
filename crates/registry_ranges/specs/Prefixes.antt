-- What a partial version says up to its first wildcard. All that follows it is ignored.
use Rattle.std.specs.Prelude.{◌≡◌, ◌≤◌, ℕ, true, List}
use Rattle.semver.specs.Grammar.{is_pre_release}
use Rattle.registry_names.specs.Versions.{greatest_number}
use Rattle.registry_ranges.specs.declared.component.Component.{Component}
use Rattle.registry_ranges.specs.declared.component.Component.TheVariants.{Wildcard, Number}
use Rattle.registry_ranges.specs.declared.prefix as Code
use Rattle.registry_ranges.specs.declared.prefix.Prefix.TheVariants as code
use Rattle.registry_ranges.specs.Grammar.{Partial, one, two, three}

-- no number, the first numbers, or three numbers and the prerelease
pub data Prefix : Type 0 where
  any : Prefix
  major : ℕ → Prefix
  minor : ℕ → ℕ → Prefix
  full : ℕ → ℕ → ℕ → List ℕ → Prefix

abbrev pub prefix_two : ℕ → Component → Prefix
prefix_two a (Number b) = minor a b
prefix_two a (Wildcard _) = major a

abbrev pub prefix_three : ℕ → Component → Component → List ℕ → Prefix
prefix_three a (Number b) (Number c) pre = full a b c pre
prefix_three a (Number b) (Wildcard _) pre = minor a b
prefix_three a (Wildcard _) c pre = major a

abbrev pub prefix_of : Partial → Prefix
prefix_of (one (Number a)) = major a
prefix_of (two (Number a) b) = prefix_two a b
prefix_of (three (Number a) b c pre build) = prefix_three a b c pre
prefix_of (one (Wildcard _)) = any
prefix_of (two (Wildcard _) b) = any
prefix_of (three (Wildcard _) b c pre build) = any

-- its numbers are in bounds, and its prerelease is one or the empty text
abbrev pub IsPrefix : Prefix → Type 0
IsPrefix any = Unit {0}
IsPrefix (major a) = a ≤ greatest_number
IsPrefix (minor a b) = (a ≤ greatest_number) × (b ≤ greatest_number)
IsPrefix (full a b c pre) = (a ≤ greatest_number) × (b ≤ greatest_number) × (c ≤ greatest_number) × (is_pre_release pre ≡ true)

-- the program's value, with the text of the reference
abbrev pub prefix_view : Code.Prefix.Prefix → Prefix
prefix_view code.Any = any
prefix_view (code.Major a) = major a
prefix_view (code.Minor a b) = minor a b
prefix_view (code.Full a b c pre) = full a b c pre.now
