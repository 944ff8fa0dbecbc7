-- What a range set allows: the table of what each form means, and the rule on prereleases, after
-- node-semver's README.
use Rattle.std.specs.Prelude.{◌≡◌, ◌↔◌, IsTrue, ℕ, zero, suc, ◌+◌, Bool, true, not, ◌==◌, ◌&&◌, ◌||◌, List, [], ◌∷◌, length}
use Rattle.std.specs.List.{flat_map, list_all, list_any}
use Rattle.std.specs.Ordering.{is_eq, is_lt, is_le, is_gt, is_ge}
use Rattle.std.specs.declared.cmp.Ordering.{Ordering}
use Rattle.registry_names.specs.Versions.{VersionParts, precedence}
use Rattle.registry_ranges.specs.declared.simple.Operator.{Operator}
use Rattle.registry_ranges.specs.declared.simple.Operator.TheVariants.{Bare, Less, Greater, LessEq, GreaterEq, Equal, Tilde, TildeGreater, Caret}
use Rattle.registry_ranges.specs.declared.relation.Relation.{Relation}
use Rattle.registry_ranges.specs.declared.relation.Relation.TheVariants as relation
use Rattle.registry_ranges.specs.Values.{Part, simple, hyphen, nothing, Ranges, IsRangeOf}
use Rattle.registry_ranges.specs.Prefixes.{Prefix, any, major, minor, full}

-- a relation to a bound, by precedence
pub record Comparator : Type 0 where
  pub relation : Relation
  pub bound : VersionParts

abbrev pub comparator : Relation → ℕ → ℕ → ℕ → List ℕ → Comparator
comparator r a b c pre = record { relation = r; bound = record { major = a; minor = b; patch = c; pre = pre } }

-- `<a.b.c-0`: below each version with these numbers, prereleases included
abbrev pub below : ℕ → ℕ → ℕ → Comparator
below a b c = comparator relation.Less a b c (48 ∷ [])

-- at least the prefix, with zeros for what is missing
abbrev pub lower : Prefix → Comparator
lower any = comparator relation.GreaterEq 0 0 0 []
lower (major a) = comparator relation.GreaterEq a 0 0 []
lower (minor a b) = comparator relation.GreaterEq a b 0 []
lower (full a b c pre) = comparator relation.GreaterEq a b c pre

-- a prefix alone or after `=`
abbrev pub same : Prefix → List Comparator
same any = lower any ∷ []
same (major a) = lower (major a) ∷ below (a + 1) 0 0 ∷ []
same (minor a b) = lower (minor a b) ∷ below a (b + 1) 0 ∷ []
same (full a b c pre) = comparator relation.Equal a b c pre ∷ []

-- a prefix after `~` or `~>`
abbrev pub tilde : Prefix → List Comparator
tilde any = lower any ∷ []
tilde (major a) = lower (major a) ∷ below (a + 1) 0 0 ∷ []
tilde (minor a b) = lower (minor a b) ∷ below a (b + 1) 0 ∷ []
tilde (full a b c pre) = lower (full a b c pre) ∷ below a (b + 1) 0 ∷ []

-- above the first number that isn't zero; `last` where the major and the minor number are zero
abbrev pub caret_end : ℕ → ℕ → Comparator → Comparator
caret_end (suc a) b last = below (suc a + 1) 0 0
caret_end zero (suc b) last = below 0 (suc b + 1) 0
caret_end zero zero last = last

-- a prefix after `^`
abbrev pub caret : Prefix → List Comparator
caret any = lower any ∷ []
caret (major a) = lower (major a) ∷ below (a + 1) 0 0 ∷ []
caret (minor a b) = lower (minor a b) ∷ caret_end a b (below 0 1 0) ∷ []
caret (full a b c pre) = lower (full a b c pre) ∷ caret_end a b (below 0 0 (c + 1)) ∷ []

-- a prefix after `>`
abbrev pub greater : Prefix → Comparator
greater any = below 0 0 0
greater (major a) = comparator relation.GreaterEq (a + 1) 0 0 []
greater (minor a b) = comparator relation.GreaterEq a (b + 1) 0 []
greater (full a b c pre) = comparator relation.Greater a b c pre

-- a prefix after `<`
abbrev pub less : Prefix → Comparator
less any = below 0 0 0
less (major a) = below a 0 0
less (minor a b) = below a b 0
less (full a b c pre) = comparator relation.Less a b c pre

-- a prefix after `<=`
abbrev pub at_most : Prefix → Comparator
at_most any = lower any
at_most (major a) = below (a + 1) 0 0
at_most (minor a b) = below a (b + 1) 0
at_most (full a b c pre) = comparator relation.LessEq a b c pre

-- the high end of a hyphen range, which a wildcard leaves open
abbrev pub high_end : Prefix → List Comparator
high_end any = []
high_end (major a) = at_most (major a) ∷ []
high_end (minor a b) = at_most (minor a b) ∷ []
high_end (full a b c pre) = at_most (full a b c pre) ∷ []

abbrev pub comparators_of_simple : Operator → Prefix → List Comparator
comparators_of_simple Bare p = same p
comparators_of_simple Equal p = same p
comparators_of_simple Tilde p = tilde p
comparators_of_simple TildeGreater p = tilde p
comparators_of_simple Caret p = caret p
comparators_of_simple Less p = less p ∷ []
comparators_of_simple Greater p = greater p ∷ []
comparators_of_simple LessEq p = at_most p ∷ []
comparators_of_simple GreaterEq p = lower p ∷ []

abbrev pub comparators_of_part : Part → List Comparator
comparators_of_part nothing = lower any ∷ []
comparators_of_part (hyphen low high) = lower low ∷ high_end high
comparators_of_part (simple o p) = comparators_of_simple o p

abbrev pub comparators_of_range : List Part → List Comparator
comparators_of_range parts = flat_map comparators_of_part parts

abbrev pub comparators_of_others : List (List Part) → List (List Comparator)
comparators_of_others [] = []
comparators_of_others (r ∷ rest) = comparators_of_range r ∷ comparators_of_others rest

-- the comparators of each range of a set
abbrev pub comparators_of : Ranges → List (List Comparator)
comparators_of r = comparators_of_range r.0 ∷ comparators_of_others r.1

abbrev pub meets : Relation → Ordering → Bool
meets relation.Less o = is_lt o
meets relation.LessEq o = is_le o
meets relation.Greater o = is_gt o
meets relation.GreaterEq o = is_ge o
meets relation.Equal o = is_eq o

-- a comparator holds of a version by precedence
abbrev pub holds : VersionParts → Comparator → Bool
holds v c = meets c.relation (precedence v c.bound)

abbrev pub has_numbers : VersionParts → ℕ → ℕ → ℕ → Bool
has_numbers v a b c = (a == v.major) && (b == v.minor) && (c == v.patch)

-- a comparator has a prerelease, and the version's three numbers
abbrev pub is_near : VersionParts → Comparator → Bool
is_near v c = not (length c.bound.pre == 0) && has_numbers v c.bound.major c.bound.minor c.bound.patch

-- each comparator holds, and a prerelease has a comparator near
abbrev pub range_allows : VersionParts → List Comparator → Bool
range_allows v range = list_all (holds v) range && (length v.pre == 0 || list_any (is_near v) range)

-- one of the ranges allows the version
abbrev pub set_allows : VersionParts → List (List Comparator) → Bool
set_allows v ranges = list_any (range_allows v) ranges

-- the text is a range set, and these are its comparators
abbrev pub HasComparators : List ℕ → List (List Comparator) → Type 0
HasComparators text ranges = (r : Ranges) × IsRangeOf text r × (ranges ≡ comparators_of r)

-- the text is a range set that allows the version
abbrev pub Allows : List ℕ → VersionParts → Type 0
Allows text v = (r : Ranges) × IsRangeOf text r × (set_allows v (comparators_of r) ≡ true)

-- the comparators allow what the text does
abbrev pub Means : List ℕ → List (List Comparator) → Type 0
Means text ranges = (v : VersionParts) → IsTrue (set_allows v ranges) ↔ Allows text v
