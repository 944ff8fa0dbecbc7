-- Who needs a package, version by version.
use Rattle.std.specs.Prelude.{◌≡◌, Bool, ◌&&◌, List, map, filter}
use Rattle.std.specs.List.{list_any}
use Rattle.registry_names.specs.Keys.{Pair}
use Rattle.registry_names.specs.Texts.{Text, is}
use Rattle.registry_names.specs.Maps.{entries}
use Rattle.registry_names.specs.Versions.{VersionParts}
use Rattle.registry_ranges.specs.Texts.{binds}
use Rattle.registry_rows.specs.TextKeys.{Texts}
use Rattle.registry_tables.specs.Contents.{Contents}
use Rattle.registry_tables.specs.Withdrawals.{is_foreign_need}
use Rattle.registry_tables.specs.declared.needs.Dependent.{Dependent}

-- its package and its text
abbrev pub dependent_entry : Dependent → Pair
dependent_entry d = (d.package, d.version)

-- the live versions of other packages that need this one, one for each need
abbrev pub dependents_on : Contents → Text → List Pair
dependents_on c p = map (λ (e : Texts 3 × Unit {0}). (e.0.0, e.0.1.0)) (filter (λ (e : Texts 3 × Unit {0}). is_foreign_need p e.0) (entries c.need_ranges))

-- the need is one of this version, for this package
abbrev pub is_need_on : Text → Pair → Texts 3 → Bool
is_need_on p q k = is q.0 k.0 && (is q.1 k.1.0 && is p k.1.1.0)

-- the ranges in which a version needs a package
abbrev pub ranges_of : Contents → Text → Pair → List Text
ranges_of c p q = map (λ (e : Texts 3 × Unit {0}). e.0.1.1.1) (filter (λ (e : Texts 3 × Unit {0}). is_need_on p q e.0) (entries c.need_ranges))

-- a test passes one of these exactly where it passes one of those
abbrev pub HaveSame : {Z : Type 0} → List Z → List Z → Type 0
HaveSame {Z} xs ys = (test : Z → Bool) → list_any test xs ≡ list_any test ys

-- the text binds one of the versions
abbrev pub binds_one : List VersionParts → Text → Bool
binds_one vs text = list_any (binds text) vs
