-- The versions that a range of a selector selects lie between two places in the order of versions.
-- So a range is an interval, and a selector a list of intervals.
use Rattle.std.specs.Prelude.{◌≡◌, ◌≤◌, ℕ, ◌+◌, Bool, false, not, ◌&&◌, ◌||◌, List, [], ◌∷◌, if◌then◌else◌}
use Rattle.std.specs.List.{list_any}
use Rattle.std.specs.Ordering.{is_lt, nat_cmp, ordering_then}
use Rattle.std.specs.declared.cmp.Ordering.{Ordering}
use Rattle.semver.specs.Order.{pre_cmp}
use Rattle.registry_names.specs.Versions.{VersionParts, greatest_number}
use Rattle.registry_ranges.specs.declared.end.Place.{Place}
use Rattle.registry_ranges.specs.declared.end.Place.TheVariants.{Start, Before, After}
use Rattle.registry_ranges.specs.declared.relation.Relation.{Relation}
use Rattle.registry_ranges.specs.declared.relation.Relation.TheVariants as relation
use Rattle.registry_ranges.specs.Selectors.{Condition, all, has_major, has_minor, compared, set_selects}

-- ---- places in the order of versions

-- a place beside a version, or before all versions with its numbers, prereleases included
pub record End : Type 0 where
  pub major : ℕ
  pub minor : ℕ
  pub patch : ℕ
  pub place : Place
  pub pre : List ℕ

abbrev pub beside : Place → VersionParts → End
beside place v = record { major = v.major; minor = v.minor; patch = v.patch; place = place; pre = v.pre }

-- before all versions with these numbers
abbrev pub start : ℕ → ℕ → ℕ → End
start a b c = record { major = a; minor = b; patch = c; place = Start; pre = [] }

-- the start is before each version with its numbers
abbrev pub level : Place → ℕ
level Start = 0
level Before = 1
level After = 1

-- after a version is after the place before it
abbrev pub side : Place → ℕ
side Start = 0
side Before = 0
side After = 1

-- the order of places
abbrev pub end_cmp : End → End → Ordering
end_cmp x y = ordering_then (nat_cmp x.major y.major) (ordering_then (nat_cmp x.minor y.minor) (ordering_then (nat_cmp x.patch y.patch)
    (ordering_then (nat_cmp (level x.place) (level y.place)) (ordering_then (pre_cmp x.pre y.pre) (nat_cmp (side x.place) (side y.place))))))

abbrev pub is_below : End → End → Bool
is_below x y = is_lt (end_cmp x y)

-- a version comes before a place
abbrev pub comes_before : VersionParts → End → Bool
comes_before v e = is_below (beside Before v) e

-- ---- intervals

pub record Interval : Type 0 where
  pub low : End
  pub high : End

-- a version is between the ends
abbrev pub covers : VersionParts → Interval → Bool
covers v i = not (comes_before v i.low) && comes_before v i.high

-- it is so for one of them
abbrev pub some_covers : VersionParts → List Interval → Bool
some_covers v intervals = list_any (covers v) intervals

-- before and after all versions
abbrev pub first : End
first = start 0 0 0

abbrev pub last : End
last = start (greatest_number + 1) 0 0

abbrev pub whole : Interval
whole = record { low = first; high = last }

-- the versions in a relation to a bound
abbrev pub interval_of_relation : Relation → VersionParts → Interval
interval_of_relation relation.Less v = record { low = first; high = beside Before v }
interval_of_relation relation.LessEq v = record { low = first; high = beside After v }
interval_of_relation relation.Greater v = record { low = beside After v; high = last }
interval_of_relation relation.GreaterEq v = record { low = beside Before v; high = last }
interval_of_relation relation.Equal v = record { low = beside Before v; high = beside After v }

-- the versions that meet a condition
abbrev pub interval_of : Condition → Interval
interval_of all = whole
interval_of (has_major a) = record { low = start a 0 0; high = start (a + 1) 0 0 }
interval_of (has_minor a b) = record { low = start a b 0; high = start a (b + 1) 0 }
interval_of (compared c) = interval_of_relation c.relation c.bound

abbrev pub later : End → End → End
later x y = if is_below x y then y else x

abbrev pub earlier : End → End → End
earlier x y = if is_below y x then y else x

-- the versions in both
abbrev pub meet : Interval → Interval → Interval
meet x y = record { low = later x.low y.low; high = earlier x.high y.high }

-- ---- lists of intervals

-- an interval ends where another does, or before
abbrev pub ends_by : Interval → Interval → Bool
ends_by x y = not (is_below y.high x.high)

abbrev pub IsNotBelow : End → End → Type 0
IsNotBelow x y = is_below x y ≡ false

-- each interval starts no earlier and ends no earlier than the one before it
abbrev pub AscendFrom : Interval → List Interval → Type 0
AscendFrom x [] = Unit {0}
AscendFrom x (y ∷ rest) = IsNotBelow y.low x.low × IsNotBelow y.high x.high × AscendFrom y rest

abbrev pub Ascend : List Interval → Type 0
Ascend [] = Unit {0}
Ascend (x ∷ rest) = AscendFrom x rest

-- two lists cover the same versions
abbrev pub CoverTheSame : List Interval → List Interval → Type 0
CoverTheSame xs ys = (v : VersionParts) → some_covers v xs ≡ some_covers v ys

-- a list covers what another does, and what one more interval does
abbrev pub CoversMore : List Interval → List Interval → Interval → Type 0
CoversMore old new more = (v : VersionParts) → some_covers v new ≡ (some_covers v old || covers v more)

-- the intervals cover the versions that the conditions select
abbrev pub CoverWhat : List (List Condition) → List Interval → Type 0
CoverWhat ranges intervals = (v : VersionParts) → v.major ≤ greatest_number → some_covers v intervals ≡ set_selects v ranges
