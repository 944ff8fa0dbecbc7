-- The rules of form: for each kind of row, which rules a row keeps by itself and beside the others.
-- `R` is all rows, and the row is a key with a value.
use Rattle.std.specs.Prelude.{◌==◌, ℤ, Bool, true, false, not, ◌&&◌, ◌||◌, List, [], ◌∷◌, Option, Some, None, is_none, length, find, option_and_then, option_map}
use Rattle.std.specs.List.{list_any}
use Rattle.std.specs.Ordering.{int_eq}
use Rattle.registry_names.specs.Idents.{is_ident}
use Rattle.registry_names.specs.Keys.{Pair, Triple, pair_is}
use Rattle.registry_names.specs.Messages.{is_message}
use Rattle.registry_names.specs.Names.{scope_of}
use Rattle.registry_names.specs.Tags.{is_tag, latest}
use Rattle.registry_names.specs.Texts.{Text, is}
use Rattle.registry_names.specs.declared.status.Status.{Status}
use Rattle.registry_tables.specs.Contents.{LiveVersion}
use Rattle.registry_tables.specs.Numbers.{is_level, is_moment, is_role, is_status}
use Rattle.registry_check.specs.Counter.{is_count, is_counted}
use Rattle.registry_check.specs.Forms.{is_manifest_text, is_name, is_range, is_version, states}
use Rattle.registry_check.specs.Rows.{Rows}
use Rattle.registry_check.specs.Rules.{has, test}
use Rattle.registry_check.specs.declared.problem.Test.{Test}
use Rattle.registry_check.specs.declared.rule.Rule.TheVariants.{CountsAlone, HasCount, HasDigest, HasLatest, HasLevel, HasManifest, HasMessage, HasMoment, HasPackage, HasRole, HasScope, HasStated, HasStatus, IsCounted, IsGone, IsNoRange, IsSpelled, IsUnscoped, IsUnused, NamesLive}

-- ---- names

abbrev pub user_forms : Rows → Text × Unit {0} → List Test
user_forms R (k, v) = test IsSpelled (is_ident k) ∷ []

abbrev pub token_forms : Rows → Text × Text → List Test
token_forms R (k, v) = test HasDigest (length k == 32) ∷ []

abbrev pub organisation_forms : Rows → Text × Unit {0} → List Test
organisation_forms R (k, v) = test IsSpelled (is_ident k) ∷ []

abbrev pub team_forms : Rows → Pair × Unit {0} → List Test
team_forms R (k, v) = test IsSpelled (is_ident k.1) ∷ []

-- ---- packages

-- the organisation of a scope is there
abbrev pub has_scope_of : Rows → Option Text → Bool
has_scope_of R None = true
has_scope_of R (Some s) = has is R.organisations s

-- some version of the package lives
abbrev pub has_live : Rows → Text → Bool
has_live R p = list_any (λ (e : Pair × LiveVersion). is e.0.0 p) R.live

abbrev pub package_forms : Rows → Text × Status → List Test
package_forms R (k, v) = test IsSpelled (is_name k) ∷ test HasScope (has_scope_of R (scope_of k)) ∷ test HasLatest (not (has_live R k) || has pair_is R.tags (k, latest)) ∷ []

-- only a package without a scope has maintainers
abbrev pub maintainer_forms : Rows → Pair × Unit {0} → List Test
maintainer_forms R (k, v) = test IsUnscoped (is_none (scope_of k.0)) ∷ []

-- ---- numbers

abbrev pub role_forms : Rows → Pair × ℤ → List Test
role_forms R (k, v) = test HasRole (is_role v) ∷ []

abbrev pub status_forms : Rows → Text × ℤ → List Test
status_forms R (k, v) = test HasStatus (is_status v) ∷ []

abbrev pub level_forms : Rows → Triple × ℤ → List Test
level_forms R (k, v) = test HasLevel (is_level v) ∷ []

abbrev pub moment_forms : Rows → Pair × ℤ → List Test
moment_forms R (k, v) = test HasMoment (is_moment v) ∷ []

-- ---- versions

-- the number of the archive that the version has
abbrev pub held_number : Rows → Pair → Option ℤ
held_number R k = option_map (λ (e : Pair × ℤ). e.1) (find (λ (e : Pair × ℤ). pair_is e.0 k) R.held)

-- the integrity stored with the archive of this number
abbrev pub integrity_under : Rows → ℤ → Option Text
integrity_under R n = option_map (λ (e : ℤ × Text). e.1) (find (λ (e : ℤ × Text). int_eq e.0 n) R.archives)

-- the integrity stored with the archive that the version has
abbrev pub held_integrity : Rows → Pair → Option Text
held_integrity R k = option_and_then (integrity_under R) (held_number R k)

-- an archive that isn't there has no other integrity
abbrev pub states_held : Option Text → Text → Bool
states_held None manifest = true
states_held (Some integrity) manifest = states integrity manifest

abbrev pub version_forms : Rows → Pair × LiveVersion → List Test
version_forms R (k, v) = test HasPackage (has is R.packages k.0) ∷ test IsSpelled (is_version k.1) ∷ test HasManifest (is_manifest_text k.0 k.1 v.manifest)
    ∷ test HasStated (states_held (held_integrity R k) v.manifest) ∷ test HasMessage (is_message v.message) ∷ []

abbrev pub spent_forms : Rows → Pair × (ℤ × ℤ) → List Test
spent_forms R (k, v) = test HasPackage (has is R.packages k.0) ∷ test IsSpelled (is_version k.1) ∷ test IsGone (not (has pair_is R.live k)) ∷ test HasMoment (is_moment v.0 && is_moment v.1) ∷ []

abbrev pub tag_forms : Rows → Pair × Text → List Test
tag_forms R (k, v) = test IsSpelled (is_tag k.1) ∷ test IsNoRange (not (is_range k.1)) ∷ test NamesLive (has pair_is R.live (k.0, v)) ∷ []

-- ---- numbers of archives

-- the number was counted
abbrev pub number_forms : Rows → ℤ × Text → List Test
number_forms R (k, v) = test IsCounted (is_counted R.counter.1 k) ∷ []

-- nothing else is counted, and the count goes on
abbrev pub counter_forms : Rows → Bool × Option ℤ → List Test
counter_forms R (alone, count) = test CountsAlone alone ∷ test HasCount (is_count count) ∷ []

-- ---- what an older schema had

-- no row of `needs` is right
abbrev pub target_forms : Rows → Triple × Unit {0} → List Test
target_forms R (k, v) = test IsUnused false ∷ []
