-- What ranges allow, in the words of node-semver's README: the laws that the functions of
-- `src/laws.rt` ensure. None of them speaks of comparators.
use Rattle.std.specs.Prelude.{◌≡◌, ◌≢◌, ◌↔◌, ◌⊎◌, ℕ, Bool, true, List, [], ◌∷◌, ◌++◌, take, codes, Any}
use Rattle.std.specs.Ordering.{nat_cmp, ordering_then, is_le, is_ge}
use Rattle.std.specs.declared.cmp.Ordering.{Ordering}
use Rattle.std.specs.declared.cmp.Ordering.TheVariants.{Equal}
use Rattle.semver.specs.Grammar.{is_pre_release}
use Rattle.registry_names.specs.Versions.{VersionParts, precedence}
use Rattle.registry_ranges.specs.Comparators.{Allows}
use Rattle.registry_ranges.specs.Grammar.{Partial, IsPartial, print_partial, print_v, spaces, Simple, simples, IsRange, print_range, IsRangeText}
use Rattle.registry_ranges.specs.Prefixes.{Prefix, any, major, minor, full, prefix_of}
use Rattle.registry_ranges.specs.Selectors.{IsSelector, Selects}
use Rattle.registry_ranges.specs.Values.{Part, simple, hyphen, nothing, Ranges, IsRangeOf}

-- ---- versions

-- the prerelease is one, or empty
abbrev pub IsInForm : VersionParts → Type 0
IsInForm v = is_pre_release v.pre ≡ true

-- a version without a prerelease
abbrev pub IsRelease : VersionParts → Type 0
IsRelease v = v.pre ≡ []

abbrev pub version : ℕ → ℕ → ℕ → List ℕ → VersionParts
version a b c pre = record { major = a; minor = b; patch = c; pre = pre }

abbrev pub release : ℕ → ℕ → ℕ → VersionParts
release a b c = version a b c []

-- a version is the start, or above it by precedence
abbrev pub IsFrom : VersionParts → VersionParts → Type 0
IsFrom start v = is_ge (precedence v start) ≡ true

abbrev pub three_numbers : VersionParts → List ℕ
three_numbers v = v.major ∷ v.minor ∷ v.patch ∷ []

-- ---- partial versions

-- the text is a partial version, after one v or none, which says this up to its first wildcard
abbrev pub Says : List ℕ → Prefix → Type 0
Says text prefix = (v : Bool) × (p : Partial) × IsPartial p × (text ≡ print_v v ++ print_partial p) × (prefix ≡ prefix_of p)

-- the numbers that it says
abbrev pub numbers_of : Prefix → List ℕ
numbers_of any = []
numbers_of (major a) = a ∷ []
numbers_of (minor a b) = a ∷ b ∷ []
numbers_of (full a b c pre) = a ∷ b ∷ c ∷ []

-- the version with zeros for what it leaves out
abbrev pub start_of : Prefix → VersionParts
start_of any = release 0 0 0
start_of (major a) = release a 0 0
start_of (minor a b) = release a b 0
start_of (full a b c pre) = version a b c pre

-- how a version compares with it: by the numbers that it says, and by precedence where it says
-- all three
abbrev pub compared : VersionParts → Prefix → Ordering
compared v any = Equal
compared v (major a) = nat_cmp v.major a
compared v (minor a b) = ordering_then (nat_cmp v.major a) (nat_cmp v.minor b)
compared v (full a b c pre) = precedence v (version a b c pre)

-- it has a prerelease, and the version's three numbers
abbrev pub NamesPrerelease : VersionParts → Prefix → Type 0
NamesPrerelease v any = ⊥
NamesPrerelease v (major a) = ⊥
NamesPrerelease v (minor a b) = ⊥
NamesPrerelease v (full a b c pre) = (pre ≢ []) × (a ≡ v.major) × (b ≡ v.minor) × (c ≡ v.patch)

-- a request by it may get the version: any release, and a prerelease that it names
abbrev pub IsOpenTo : VersionParts → Prefix → Type 0
IsOpenTo v prefix = IsRelease v ⊎ NamesPrerelease v prefix

-- a law of every partial version and every version
abbrev pub OfPartials : (List ℕ → Prefix → VersionParts → Type 0) → Type 0
OfPartials law = (text : List ℕ) (prefix : Prefix) (v : VersionParts) → Says text prefix → IsInForm v → law text prefix v

-- a law of every two partial versions and every version
abbrev pub OfTwo : (List ℕ → Prefix → List ℕ → Prefix → VersionParts → Type 0) → Type 0
OfTwo law = (low : List ℕ) (l : Prefix) (high : List ℕ) (h : Prefix) (v : VersionParts) → Says low l → Says high h → IsInForm v → law low l high h v

-- two texts allow the same versions
abbrev pub AllowTheSame : List ℕ → List ℕ → Type 0
AllowTheSame x y = (v : VersionParts) → IsInForm v → Allows x v ↔ Allows y v

-- ---- a partial version after an operator

-- a version is allowed by how it compares
abbrev pub AllowsCompared : List ℕ → (Ordering → Bool) → List ℕ → Prefix → VersionParts → Type 0
AllowsCompared operator test text prefix v = Allows (operator ++ text) v ↔ ((test (compared v prefix) ≡ true) × IsOpenTo v prefix)

-- ---- carets and tildes

-- the numbers begin with those that are said
abbrev pub BeginWith : List ℕ → List ℕ → Type 0
BeginWith [] numbers = Unit {0}
BeginWith (n ∷ said) [] = ⊥
BeginWith (n ∷ said) (x ∷ numbers) = (x ≡ n) × BeginWith said numbers

-- the same up to the leftmost number that isn't zero
abbrev pub KeepLeftmost : List ℕ → List ℕ → Type 0
KeepLeftmost [] numbers = Unit {0}
KeepLeftmost (n ∷ said) [] = ⊥
KeepLeftmost (n ∷ said) (x ∷ numbers) = (x ≡ n) × (n ≡ 0 → KeepLeftmost said numbers)

-- versions from this one on, without a change of the leftmost number that isn't zero
abbrev pub AllowsCaret : List ℕ → Prefix → VersionParts → Type 0
AllowsCaret text prefix v = Allows (codes "^" ++ text) v
    ↔ (IsFrom (start_of prefix) v × KeepLeftmost (numbers_of prefix) (three_numbers v) × IsOpenTo v prefix)

-- versions from this one on, without a change of the major number, nor of the minor number where
-- it is said
abbrev pub AllowsTilde : List ℕ → List ℕ → Prefix → VersionParts → Type 0
AllowsTilde tilde text prefix v = Allows (tilde ++ text) v
    ↔ (IsFrom (start_of prefix) v × BeginWith (take 2 (numbers_of prefix)) (three_numbers v) × IsOpenTo v prefix)

-- ---- hyphen ranges

abbrev pub hyphened : List ℕ → List ℕ → List ℕ
hyphened low high = low ++ (codes " - " ++ high)

-- versions from the low end on, up to all that begin with the high end
abbrev pub AllowsHyphened : List ℕ → Prefix → List ℕ → Prefix → VersionParts → Type 0
AllowsHyphened low l high h v = Allows (hyphened low high) v
    ↔ (IsFrom (start_of l) v × (is_le (compared v h) ≡ true) × (IsOpenTo v l ⊎ IsOpenTo v h))

-- `A - *` is `>=A`
abbrev pub IsOpenAbove : Type 0
IsOpenAbove = (low : List ℕ) (l : Prefix) (high : List ℕ) → Says low l → Says high any → AllowTheSame (hyphened low high) (codes ">=" ++ low)

-- `* - B` is `<=B`, where B isn't below 0.0.0
abbrev pub IsOpenBelow : Type 0
IsOpenBelow = (low high : List ℕ) (h : Prefix) → Says low any → Says high h → IsFrom (release 0 0 0) (start_of h)
    → AllowTheSame (hyphened low high) (codes "<=" ++ high)

-- `A - B` is `>=A <=B`, where B begins with a number
abbrev pub IsBetween : Type 0
IsBetween = (low : List ℕ) (l : Prefix) (high : List ℕ) (h : Prefix) → Says low l → Says high h → h ≢ any
    → AllowTheSame (hyphened low high) (codes ">=" ++ (low ++ (codes " <=" ++ high)))

-- ---- what follows at once

-- three numbers allow only that version
abbrev pub AllowsItself : Type 0
AllowsItself = (text : List ℕ) (a b c : ℕ) (pre : List ℕ) (v : VersionParts) → Says text (full a b c pre)
    → Allows text v ↔ (v ≡ version a b c pre)

-- a wildcard and the empty text allow every release, and no prerelease
abbrev pub AllowsReleases : List ℕ → Type 0
AllowsReleases text = (v : VersionParts) → IsInForm v → Allows text v ↔ IsRelease v

abbrev pub WildcardsAllowReleases : Type 0
WildcardsAllowReleases = (text : List ℕ) → Says text any → AllowsReleases text

-- nothing is below or above all versions
abbrev pub AllowsNothing : List ℕ → Type 0
AllowsNothing operator = (text : List ℕ) (v : VersionParts) → Says text any → IsInForm v → ¬ (Allows (operator ++ text) v)

-- ---- sets of ranges

-- bars are a union
abbrev pub BarsAreUnions : Type 0
BarsAreUnions = (x y : List ℕ) (v : VersionParts) → IsRangeText x → IsRangeText y → Allows (x ++ (codes "||" ++ y)) v ↔ (Allows x v ⊎ Allows y v)

-- spaces at the ends say nothing
abbrev pub EndsAreSpaced : Type 0
EndsAreSpaced = (before after : ℕ) (x : List ℕ) (v : VersionParts) → IsRangeText x → Allows (spaces before ++ (x ++ spaces after)) v ↔ Allows x v

-- simples with spaces between
abbrev pub AreSimplesText : List ℕ → Type 0
AreSimplesText text = (first : Simple) × (more : List (ℕ × Simple)) × IsRange (simples first more) × (text ≡ print_range (simples first more))

-- a law of two such texts with a space between
abbrev pub OfSpaced : (List ℕ → List ℕ → List ℕ → VersionParts → Type 0) → Type 0
OfSpaced law = (x y : List ℕ) (v : VersionParts) → AreSimplesText x → AreSimplesText y → law x y (x ++ (codes " " ++ y)) v

-- of releases a space is the intersection
abbrev pub ReleasesMeet : List ℕ → List ℕ → List ℕ → VersionParts → Type 0
ReleasesMeet x y both v = IsRelease v → Allows both v ↔ (Allows x v × Allows y v)

-- what both allow is allowed, and what is allowed is allowed by one of them
abbrev pub PrereleasesMeet : List ℕ → List ℕ → List ℕ → VersionParts → Type 0
PrereleasesMeet x y both v = (Allows x v × Allows y v → Allows both v) × (Allows both v → Allows x v ⊎ Allows y v)

-- ---- prereleases

abbrev pub NamesInPart : VersionParts → Part → Type 0
NamesInPart v (simple o p) = NamesPrerelease v p
NamesInPart v (hyphen low high) = NamesPrerelease v low ⊎ NamesPrerelease v high
NamesInPart v nothing = ⊥

-- some partial version of the ranges has a prerelease, and the version's three numbers
abbrev pub NamesInRanges : VersionParts → Ranges → Type 0
NamesInRanges v ranges = Any (Any (NamesInPart v)) (ranges.0 ∷ ranges.1)

-- a prerelease is allowed only where it is named
abbrev pub PrereleasesAreNamed : Type 0
PrereleasesAreNamed = (text : List ℕ) (ranges : Ranges) (v : VersionParts) → IsRangeOf text ranges → IsInForm v → Allows text v
    → IsRelease v ⊎ NamesInRanges v ranges

-- ---- selectors

-- of releases a selector selects what it allows as a range
abbrev pub SelectorsAgree : Type 0
SelectorsAgree = (text : List ℕ) (v : VersionParts) → IsSelector text → IsInForm v → IsRelease v → Selects text v ↔ Allows text v
