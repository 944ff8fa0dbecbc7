-- When a version may be withdrawn, when a package may be published again, and which versions and
-- tags a withdrawal or a deprecation concerns.
use Rattle.std.specs.Prelude.{ℕ, ◌+◌, Bool, false, not, ◌&&◌, List, [], ◌∷◌, ◌++◌, filter, map, max, nat_le, nat_lt, Option, Some, None, unwrap_or, option_map, if◌then◌else◌}
use Rattle.std.specs.Borrow.{Bor}
use Rattle.std.specs.List.{list_any}
use Rattle.std.specs.Option.{option_to_list}
use Rattle.registry_names.specs.Greatest.{greater}
use Rattle.registry_names.specs.Keys.{Pair}
use Rattle.registry_names.specs.Maps.{at, entries, keys, of}
use Rattle.registry_names.specs.Precedence.{version_in}
use Rattle.registry_names.specs.Texts.{Text, is}
use Rattle.registry_names.specs.Versions.{VersionParts, text_of_version}
use Rattle.registry_publish.specs.Needs.{needs_of}
use Rattle.registry_publish.specs.declared.need.Need.{Need}
use Rattle.registry_ranges.specs.Selectors.{Condition, set_selects}
use Rattle.registry_ranges.specs.Texts.{binds}
use Rattle.registry_rules.specs.State.{State, Release, Withdrawal, has_live}

-- ---- moments, in seconds

-- three days: an older version stays
abbrev pub oldest : ℕ
oldest = 259200

-- The version was published too long ago to be withdrawn now. Where the clock went back its age is
-- 0
abbrev pub is_too_old : ℕ → ℕ → Bool
is_too_old now published = nat_le (published + oldest) now

-- a day
abbrev pub longest_wait : ℕ
longest_wait = 86400

-- the last moment of withdrawals, if there was one
abbrev pub last_of : List (Text × Withdrawal) → Option ℕ
last_of [] = None
last_of (e ∷ es) = Some (max e.1.withdrawn (unwrap_or (last_of es) 0))

abbrev pub last_withdrawal : State → Text → Option ℕ
last_withdrawal S p = last_of (of S.spent p)

-- since when no version of the package lives: its last withdrawal, if none lives
abbrev pub gone_since : State → Text → Option ℕ
gone_since S p = if has_live S p then None else last_withdrawal S p

-- It was less than a day ago. This also holds of a moment that is still to come
abbrev pub is_less_than_a_day_ago : ℕ → Option ℕ → Bool
is_less_than_a_day_ago now None = false
is_less_than_a_day_ago now (Some last) = nat_lt now (last + longest_wait)

-- no version of the package lives, and its last withdrawal was less than a day ago
abbrev pub is_waiting : State → ℕ → Text → Bool
is_waiting S now p = not (has_live S p) && is_less_than_a_day_ago now (last_withdrawal S p)

-- ---- who needs a version

-- the need is of this package, with a text that isn't a range, or with a range that the version
-- satisfies
abbrev pub is_need_of : Text → VersionParts → Need → Bool
is_need_of p v need = is need.target p && binds need.range v

-- what a live version needs. Nothing where its manifest is out of form
abbrev pub needs_in : Release → List Need
needs_in release = unwrap_or (needs_of release.manifest) []

-- a live version of another package needs it
abbrev pub is_depended : State → Text → VersionParts → Bool
is_depended S p v = list_any (λ (e : Pair × Release). not (is e.0.0 p) && list_any (is_need_of p v) (needs_in e.1)) (entries S.live)

-- ---- a package's versions and tags, in byte order

-- when the version was published, if it lives
abbrev pub published_at : State → Text → Text → Option ℕ
published_at S p v = option_map (λ (r : Release). r.at) (at S.live (p, v))

abbrev pub live_versions : State → Text → List Text
live_versions S p = keys (of S.live p)

-- the versions that these texts spell. A text that spells none is left out
abbrev pub versions_in : List Text → List VersionParts
versions_in [] = []
versions_in (t ∷ ts) = option_to_list (version_in t) ++ versions_in ts

-- a live version of another package needs one of the package's live versions
abbrev pub is_any_depended : State → Text → Bool
is_any_depended S p = list_any (is_depended S p) (versions_in (live_versions S p))

-- the live versions, each with when it was published
abbrev pub live_since : State → Text → List (Text × ℕ)
live_since S p = map (λ (e : Text × Release). (e.0, e.1.at)) (of S.live p)

-- the text of the version that a reference points to
abbrev pub text_seen : Bor VersionParts → Text
text_seen v = text_of_version v.now

-- the other live versions
abbrev pub others : List Text → Text → List Text
others vs v = filter (λ w. not (is w v)) vs

-- the one with precedence of both, except a text that is left out
abbrev pub better : Option Text → Text → Text → Option Text
better best other without = if is other without then best else Some (greater other best)

-- the tags that name the version
abbrev pub tags_of : State → Text → Text → List Text
tags_of S p v = keys (filter (λ (e : Text × Text). is e.1 v) (of S.tags p))

-- all tags of the package
abbrev pub all_tags : State → Text → List Text
all_tags S p = keys (of S.tags p)

-- ---- what a deprecation is about

-- the conditions select the version, which is determined by its text
abbrev pub selects : List (List Condition) → Text → Bool
selects conditions v = unwrap_or (option_map (λ parts. set_selects parts conditions) (version_in v)) false

-- the live versions that they select, of any precedence
abbrev pub selected : List Text → List (List Condition) → List Text
selected vs conditions = filter (selects conditions) vs
