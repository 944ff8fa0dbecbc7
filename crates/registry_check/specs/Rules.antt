-- The rules: for each kind of row, which rules a row keeps among all rows. `R` is all rows, and the
-- row is a key `k` with a value `v`.
use Rattle.std.specs.Prelude.{◌==◌, ℤ, Bool, true, false, not, ◌&&◌, ◌||◌, List, [], ◌∷◌, Option, Some, None, is_none, length}
use Rattle.std.specs.List.{list_any, list_all}
use Rattle.std.specs.Ordering.{int_eq}
use Rattle.registry_names.specs.Keys.{Pair, Triple, pair_is, triple_is, both}
use Rattle.registry_names.specs.Names.{scope_of}
use Rattle.registry_names.specs.Texts.{Text, is}
use Rattle.registry_names.specs.declared.status.Status.{Status}
use Rattle.registry_names.specs.declared.status.Status.TheVariants.{Public, Restricted}
use Rattle.registry_access.specs.Levels.{is_owner}
use Rattle.registry_access.specs.declared.grant.Grant.{Grant}
use Rattle.registry_access.specs.declared.role.Role.{Role}
use Rattle.registry_publish.specs.Integrity.{integrity_text}
use Rattle.registry_publish.specs.Needs.{needs_of}
use Rattle.registry_publish.specs.declared.need.Need.{Need}
use Rattle.registry_rules.specs.Refusals.{is_scope}
use Rattle.registry_rules.specs.State.{developers}
use Rattle.registry_rows.specs.KeyKinds.{NumberMap}
use Rattle.registry_tables.specs.Archives.{number_of}
use Rattle.registry_tables.specs.Contents.{Archive, LiveVersion}
use Rattle.registry_tables.specs.Needs.{names_if_any}
use Rattle.registry_check.specs.Rows.{Found, NeedKey, Rows}
use Rattle.registry_check.specs.declared.problem.Test.{Test}
use Rattle.registry_check.specs.declared.rule.Rule.{Rule}
use Rattle.registry_check.specs.declared.rule.Rule.TheVariants.{HasUser, HasOrganisation, HasTeam, HasPackage, HasOwner, HasFirstTeam, IsMember, IsPublic, HasMaintainer, IsInScope, IsNamed, HasNeeds, HasArchive, IsBare, Lives, IsStored, IsHeld, HasIntegrity, IsFirst}

abbrev pub test : Rule → Bool → Test
test rule holds = record { rule = rule; holds = holds }

-- ---- what the rows have

-- some row has this key
abbrev pub has : {K X : Type 0} → (K → K → Bool) → List (K × X) → K → Bool
has same rows k = list_any (λ e. same e.0 k) rows

-- some member of the organisation is an owner
abbrev pub has_owner : Rows → Text → Bool
has_owner R o = list_any (λ (e : Pair × Role). is e.0.0 o && is_owner (Some e.1)) R.members

-- some user is a maintainer of the package
abbrev pub has_maintainer : Rows → Text → Bool
has_maintainer R p = list_any (λ (e : Pair × Unit {0}). is e.0.0 p) R.maintainers

-- ---- people

abbrev pub token_tests : Rows → Text × Text → List Test
token_tests R (k, v) = test HasUser (has is R.users v) ∷ []

abbrev pub organisation_tests : Rows → Text × Unit {0} → List Test
organisation_tests R (k, v) = test HasOwner (has_owner R k) ∷ test HasFirstTeam (has pair_is R.teams (k, developers)) ∷ []

abbrev pub member_tests : Rows → Pair × Role → List Test
member_tests R (k, v) = test HasOrganisation (has is R.organisations k.0) ∷ test HasUser (has is R.users k.1) ∷ []

abbrev pub team_tests : Rows → Pair × Unit {0} → List Test
team_tests R (k, v) = test HasOrganisation (has is R.organisations k.0) ∷ []

abbrev pub team_member_tests : Rows → Triple × Unit {0} → List Test
team_member_tests R (k, v) = test HasTeam (has pair_is R.teams (k.0, k.1.0)) ∷ test IsMember (has pair_is R.members (k.0, k.1.1)) ∷ []

-- ---- packages

abbrev pub is_public : Status → Bool
is_public Public = true
is_public Restricted = false

-- what a package without a scope needs
abbrev pub package_tests : Rows → Text × Status → List Test
package_tests R (k, v) = test IsPublic (not (is_none (scope_of k)) || is_public v) ∷ test HasMaintainer (not (is_none (scope_of k)) || has_maintainer R k) ∷ []

abbrev pub grant_tests : Rows → Triple × Grant → List Test
grant_tests R (k, v) = test HasTeam (has pair_is R.teams (k.0, k.1.0)) ∷ test HasPackage (has is R.packages k.1.1) ∷ test IsInScope (is_scope k.0 (scope_of k.1.1)) ∷ []

abbrev pub maintainer_tests : Rows → Pair × Unit {0} → List Test
maintainer_tests R (k, v) = test HasPackage (has is R.packages k.0) ∷ test HasUser (has is R.users k.1) ∷ []

-- ---- live versions

-- the manifest of the live version names the target with this range
abbrev pub is_named : Rows → NeedKey → Bool
is_named R k = list_any (λ (e : Pair × LiveVersion). pair_is e.0 (k.0, k.1.0) && names_if_any k.1.1.0 k.1.1.1 (needs_of e.1.manifest)) R.live

-- both have the same four texts
abbrev pub need_is : NeedKey → NeedKey → Bool
need_is = both triple_is

-- each of these needs is stored under the version. A text that isn't a manifest has no needs to
-- store
abbrev pub are_stored : Rows → Pair → Option (List Need) → Bool
are_stored R k None = true
are_stored R k (Some needs) = list_all (λ need. has need_is R.needs (k.0, (k.1, (need.target, need.range)))) needs

abbrev pub live_tests : Rows → Pair × LiveVersion → List Test
live_tests R (k, v) = test HasNeeds (are_stored R k (needs_of v.manifest)) ∷ test HasArchive (has pair_is R.held k) ∷ test IsBare (length v.archive == 0) ∷ []

abbrev pub need_tests : Rows → NeedKey × Unit {0} → List Test
need_tests R (k, v) = test IsNamed (is_named R k) ∷ []

-- ---- archives

abbrev pub held_tests : Rows → Pair × ℤ → List Test
held_tests R (k, v) = test Lives (has pair_is R.live k) ∷ test IsStored (has int_eq R.archives v) ∷ []

-- some version has the archive with this number
abbrev pub is_held : Rows → ℤ → Bool
is_held R n = list_any (λ (e : Pair × ℤ). int_eq e.1 n) R.held

-- it is there, and is this number
abbrev pub numbered : ℤ → Option ℤ → Bool
numbered n None = false
numbered n (Some m) = int_eq m n

-- the number of the first archive with this integrity and these bytes
abbrev pub first_number : NumberMap Archive → Archive → Option ℤ
first_number A v = number_of v.integrity v.bytes A

-- the first with its integrity and its bytes has this number
abbrev pub is_first : NumberMap Archive → ℤ → Archive → Bool
is_first A n v = numbered n (first_number A v)

-- of what was found of an archive
abbrev pub found_tests : Rows → Found → List Test
found_tests R (k, (integrity, (hashed, first))) = test IsHeld (is_held R k) ∷ test HasIntegrity (is integrity hashed) ∷ test IsFirst (numbered k first) ∷ []

-- what there is to find of an archive. `A` is all of them
abbrev pub found_in : NumberMap Archive → ℤ × Archive → Found
found_in A (k, v) = (k, (v.integrity, (integrity_text v.bytes, first_number A v)))

abbrev pub archive_tests : Rows → NumberMap Archive → ℤ × Archive → List Test
archive_tests R A e = found_tests R (found_in A e)
