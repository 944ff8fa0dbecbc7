-- The order of versions in words, and the test whether two are equal.
use Rattle.std.specs.Prelude.{◌≡◌, ℕ, ◌<◌, ◌⊎◌, ◌&&◌, ◌==◌, Bool, [], bytes_eq}
use Rattle.std.specs.declared.cmp.Ordering.TheVariants.{Less}
use Rattle.semver.specs.Order.{pre_cmp}
use Rattle.registry_names.specs.Versions.{VersionParts}

-- the first number is less, or both are the same and the rest decides
abbrev pub IsLessOr : ℕ → ℕ → Type 0 → Type 0
IsLessOr m n Rest = (m < n) ⊎ ((m ≡ n) × Rest)

-- a is below b: by the first of the three numbers in which they differ, and where they differ in
-- none by the prerelease
abbrev pub IsBelow : VersionParts → VersionParts → Type 0
IsBelow a b = IsLessOr a.major b.major (IsLessOr a.minor b.minor (IsLessOr a.patch b.patch (pre_cmp a.pre b.pre ≡ Less)))

-- the version of the same numbers without a prerelease
abbrev pub release_of : VersionParts → VersionParts
release_of v = record v { pre = [] }

-- whether two versions are equal
abbrev pub same_version : VersionParts → VersionParts → Bool
same_version a b = a.major == b.major && a.minor == b.minor && a.patch == b.patch && bytes_eq a.pre b.pre
