-- No row breaks a rule exactly where the premises hold.
use Rattle.std.proofs.Common.{◌≡◌, ◌∙◌, ◌==◌, ℕ, suc, ℤ, Bool, true, false, not, ◌&&◌, ◌||◌, List, [], ◌∷◌, ◌++◌, find, length, is_none, is_some, option_and_then, option_map, arith, refl, sym, ap, ap₂, subst, true≢false, Some, None, Option, IsSome}
use Rattle.std.specs.Cmp.{both_ways}
use Rattle.std.specs.List.{list_all}
use Rattle.std.specs.Ordering.{int_eq}
use Rattle.std.proofs.lemmas.Bool.{and_from, and_parts, eqb-true, or_left, or_right}
use Rattle.registry_names.specs.Keys.{Pair, pair_is}
use Rattle.registry_names.specs.Maps.{at, entries}
use Rattle.registry_names.specs.Names.{scope_of}
use Rattle.registry_names.specs.Texts.{Text, is}
use Rattle.registry_names.specs.declared.status.Status.{Status}
use Rattle.registry_names.specs.declared.status.Status.TheVariants.{Public, Restricted}
use Rattle.registry_names.proofs.KeyFacts.{pair_key, same_self, same_true, text_key, triple_key}
use Rattle.registry_access.specs.Levels.{is_owner}
use Rattle.registry_access.specs.declared.role.Role.{Role}
use Rattle.registry_access.specs.declared.role.Role.TheVariants.{Admin, Developer, Owner}
use Rattle.registry_publish.specs.Integrity.{integrity_text}
use Rattle.registry_publish.specs.Needs.{needs_of}
use Rattle.registry_publish.specs.declared.need.Need.{Need}
use Rattle.registry_rules.specs.Kept.{IsGrant, IsSound}
use Rattle.registry_rules.specs.Refusals.{is_scope}
use Rattle.registry_rules.specs.State.{developers}
use Rattle.registry_rows.specs.TextKeys.{Texts}
use Rattle.registry_rows.proofs.KeyedFacts.{number_key}
use Rattle.registry_rows.proofs.TextKeyFacts.{texts_key}
use Rattle.registry_tables.specs.Archives.{HoldsArchives, is_archive}
use Rattle.registry_tables.specs.Contents.{Archive, Contents, LiveVersion, access_of}
use Rattle.registry_tables.specs.Numbers.{grant_of}
use Rattle.registry_tables.proofs.ReadFacts.{some-read}
use Rattle.registry_tables.specs.Needs.{HoldsNeeds, is_needed, names_if_any, names_range}
use Rattle.registry_check.specs.Premises.{MeetsPremises, TellsPremises, rows_in}
use Rattle.registry_check.specs.Problems as spec
use Rattle.registry_check.specs.Problems.{archive_problems, grant_problems, held_problems, live_problems, maintainer_problems, member_problems, need_problems, organisation_problems, premise_problems, published_problems, team_member_problems, team_problems, token_problems}
use Rattle.registry_check.specs.Rows.{integrities}
use Rattle.registry_check.specs.Rules.{archive_tests, are_stored, grant_tests, has, has_maintainer, has_owner, held_tests, is_first, is_held, is_named, is_public, live_tests, maintainer_tests, member_tests, need_is, need_tests, numbered, organisation_tests, package_tests, team_member_tests, team_tests, token_tests}
use Rattle.registry_check.proofs.EachFacts.{all_hold, any_at, at_any, first_passes, has_at, means_none, nil_parts, none_means, seen_at, there, value_of}

-- ---- tests

is_its_owner : (r : Role) → is_owner (Some r) ≡ true → r ≡ Owner
is_its_owner Owner h = refl
is_its_owner Admin h = absurd (true≢false (sym h))
is_its_owner Developer h = absurd (true≢false (sym h))

in_scope : (o : Text) (s : Option Text) → is_scope o s ≡ true → s ≡ Some o
in_scope o None h = absurd (true≢false (sym h))
in_scope o (Some s) h = ap (λ (t : Text). Some t) (same_true text_key s o h)

scope_in : (o : Text) (s : Option Text) → s ≡ Some o → is_scope o s ≡ true
scope_in o s e = ap (is_scope o) e ∙ same_self text_key o

-- what is asked where there is no scope
unscoped : (s : Option Text) (b : Bool) → (not (is_none s) || b) ≡ true → s ≡ None → b ≡ true
unscoped s b h e = rw e at h

or_scoped : (s : Option Text) (b : Bool) → (s ≡ None → b ≡ true) → (not (is_none s) || b) ≡ true
or_scoped None b f = f refl
or_scoped (Some s) b f = refl

not_restricted : (s : Status) → is_public s ≡ true → s ≡ Restricted → ⊥
not_restricted s h e = true≢false (sym h ∙ ap is_public e)

public_else : (s : Status) → (s ≡ Restricted → ⊥) → is_public s ≡ true
public_else Public f = refl
public_else Restricted f = absurd (f refl)

some_inside : {X : Type 0} (x y : X) → Some x ≡ Some y → x ≡ y
some_inside x y e = cc

pub nothing_there : {X : Type 0} (bytes : List X) → (length bytes == 0) ≡ true → bytes ≡ []
nothing_there [] h = refl
nothing_there (b ∷ bytes) h = let none : suc (length bytes) ≡ 0 = eqb-true (length (b ∷ bytes)) 0 h in absurd (omega (arith, none))

its_number : (n : ℤ) (o : Option ℤ) → numbered n o ≡ true → o ≡ Some n
its_number n None h = absurd (true≢false (sym h))
its_number n (Some m) h = ap (λ (z : ℤ). Some z) (same_true number_key m n h)

-- ---- lists of problems

nil_three : {X : Type 0} (a b c : List X) → a ++ b ++ c ≡ [] → (a ≡ []) × ((b ≡ []) × (c ≡ []))
nil_three a b c h =
    let last = nil_parts (a ++ b) c h in
    let two = nil_parts a b last.0 in
    (two.0, (two.1, last.1))

nil_four : {X : Type 0} (a b c d : List X) → a ++ b ++ c ++ d ≡ [] → (a ≡ []) × ((b ≡ []) × ((c ≡ []) × (d ≡ [])))
nil_four a b c d h =
    let last = nil_parts (a ++ b ++ c) d h in
    let three = nil_three a b c last.0 in
    (three.0, (three.1.0, (three.1.1, last.1)))

four_nil : {X : Type 0} (a b c d : List X) → a ≡ [] → b ≡ [] → c ≡ [] → d ≡ [] → a ++ b ++ c ++ d ≡ []
four_nil a b c d p q r s = ap₂ (λ x y. x ++ y) (ap₂ (λ x y. x ++ y) (ap₂ (λ x y. x ++ y) p q) r) s

-- ---- needs

-- a need that passes where all do
stored_all : (test : Need → Bool) (needs : List Need) → list_all test needs ≡ true → (target range : Text) → names_range target range needs ≡ true
    → (need : Need) × ((test need ≡ true) × ((need.target ≡ target) × (need.range ≡ range)))
stored_all test [] all target range h = absurd (true≢false (sym h))
stored_all test (need ∷ needs) all target range h =
    each (stored_all test needs (and_parts (test need) (list_all test needs) all).1 target range) (is need.target target && is need.range range) refl h
  where
    each : (names_range target range needs ≡ true → (n : Need) × ((test n ≡ true) × ((n.target ≡ target) × (n.range ≡ range)))) → (b : Bool) → (is need.target target && is need.range range) ≡ b → (b || names_range target range needs) ≡ true
        → (n : Need) × ((test n ≡ true) × ((n.target ≡ target) × (n.range ≡ range)))
    each next true t i =
        let same = and_parts (is need.target target) (is need.range range) t in
        (need, ((and_parts (test need) (list_all test needs) all).0, (same_true text_key need.target target same.0, same_true text_key need.range range same.1)))
    each next false t i = next i

-- all pass where each that is named does
all_stored : (test : Need → Bool) (needs : List Need) → ((need : Need) → names_range need.target need.range needs ≡ true → test need ≡ true) → list_all test needs ≡ true
all_stored test [] f = refl
all_stored test (need ∷ needs) f =
    and_from (test need) (list_all test needs)
    (f need (or_left _ _ (and_from _ _ (same_self text_key need.target) (same_self text_key need.range))))
    (all_stored test needs (λ n h. f n (or_right (is need.target n.target && is need.range n.range) _ h)))

module _ (c : Contents) where
  -- ---- where no row breaks a rule

  module _ (none : premise_problems (rows_in c) c.archives ≡ []) where
    versions : (token_problems (rows_in c) ++ organisation_problems (rows_in c) ++ member_problems (rows_in c) ++ team_problems (rows_in c) ++ team_member_problems (rows_in c) ++ published_problems (rows_in c) ++ grant_problems (rows_in c) ++ maintainer_problems (rows_in c) ++ live_problems (rows_in c) ≡ []) × ((need_problems (rows_in c) ≡ []) × ((held_problems (rows_in c) ≡ []) × (archive_problems (rows_in c) c.archives ≡ [])))
    versions = nil_four (token_problems (rows_in c) ++ organisation_problems (rows_in c) ++ member_problems (rows_in c) ++ team_problems (rows_in c) ++ team_member_problems (rows_in c) ++ published_problems (rows_in c) ++ grant_problems (rows_in c) ++ maintainer_problems (rows_in c) ++ live_problems (rows_in c)) (need_problems (rows_in c)) (held_problems (rows_in c)) (archive_problems (rows_in c) c.archives) none

    packages : (token_problems (rows_in c) ++ organisation_problems (rows_in c) ++ member_problems (rows_in c) ++ team_problems (rows_in c) ++ team_member_problems (rows_in c) ++ published_problems (rows_in c) ≡ []) × ((grant_problems (rows_in c) ≡ []) × ((maintainer_problems (rows_in c) ≡ []) × (live_problems (rows_in c) ≡ [])))
    packages = nil_four (token_problems (rows_in c) ++ organisation_problems (rows_in c) ++ member_problems (rows_in c) ++ team_problems (rows_in c) ++ team_member_problems (rows_in c) ++ published_problems (rows_in c)) (grant_problems (rows_in c)) (maintainer_problems (rows_in c)) (live_problems (rows_in c)) versions.0

    groups : (token_problems (rows_in c) ++ organisation_problems (rows_in c) ++ member_problems (rows_in c) ≡ []) × ((team_problems (rows_in c) ≡ []) × ((team_member_problems (rows_in c) ≡ []) × (published_problems (rows_in c) ≡ [])))
    groups = nil_four (token_problems (rows_in c) ++ organisation_problems (rows_in c) ++ member_problems (rows_in c)) (team_problems (rows_in c)) (team_member_problems (rows_in c)) (published_problems (rows_in c)) packages.0

    accounts : (token_problems (rows_in c) ≡ []) × ((organisation_problems (rows_in c) ≡ []) × (member_problems (rows_in c) ≡ []))
    accounts = nil_three (token_problems (rows_in c)) (organisation_problems (rows_in c)) (member_problems (rows_in c)) groups.0

    -- what the rules say of each key and its value

    tokens_hold : (d u : Text) → at c.tokens d ≡ Some u → all_hold (token_tests (rows_in c) (d, u)) ≡ true
    tokens_hold = none_means text_key c.tokens spec.token (token_tests (rows_in c)) accounts.0

    organisations_hold : (o : Text) (v : Unit {0}) → at c.organisations o ≡ Some v → all_hold (organisation_tests (rows_in c) (o, v)) ≡ true
    organisations_hold = none_means text_key c.organisations spec.organisation (organisation_tests (rows_in c)) accounts.1.0

    members_hold : (k : Pair) (v : Role) → at (access_of c).roles k ≡ Some v → all_hold (member_tests (rows_in c) (k, v)) ≡ true
    members_hold = none_means pair_key (access_of c).roles spec.member (member_tests (rows_in c)) accounts.1.1

    teams_hold : (k : Pair) (v : Unit {0}) → at c.teams k ≡ Some v → all_hold (team_tests (rows_in c) (k, v)) ≡ true
    teams_hold = none_means pair_key c.teams spec.team (team_tests (rows_in c)) groups.1.0

    team_members_hold : (o t u : Text) (v : Unit {0}) → at c.team_members (o, (t, u)) ≡ Some v → all_hold (team_member_tests (rows_in c) ((o, (t, u)), v)) ≡ true
    team_members_hold o t u = none_means triple_key c.team_members spec.team_member (team_member_tests (rows_in c)) groups.1.1.0 (o, (t, u))

    packages_hold : (p : Text) (v : Status) → at (access_of c).statuses p ≡ Some v → all_hold (package_tests (rows_in c) (p, v)) ≡ true
    packages_hold = none_means text_key (access_of c).statuses spec.package_of (package_tests (rows_in c)) groups.1.1.1

    grants_hold : (o t p : Text) → IsSome (at (access_of c).grants (o, (t, p))) → IsGrant (access_of c) o t p
    grants_hold o t p h =
        let value = value_of (at (access_of c).grants (o, (t, p))) h in
        let all = none_means triple_key (access_of c).grants spec.grant (grant_tests (rows_in c)) packages.1.0 (o, (t, p)) value.0 value.1 in
        let one = and_parts (has pair_is (entries c.teams) (o, t)) _ all in
        let two = and_parts (has is (entries (access_of c).statuses) p) _ one.1 in
        let three = and_parts (is_scope o (scope_of p)) _ two.1 in
        record {
          team = sym (has_at pair_key c.teams (o, t)) ∙ one.0;
          status = sym (has_at text_key (access_of c).statuses p) ∙ two.0;
          scope = in_scope o (scope_of p) three.0;
        }

    maintainers_hold : (k : Pair) (v : Unit {0}) → at c.owners k ≡ Some v → all_hold (maintainer_tests (rows_in c) (k, v)) ≡ true
    maintainers_hold = none_means pair_key c.owners spec.maintainer (maintainer_tests (rows_in c)) packages.1.1.0

    live_hold : (k : Pair) (v : LiveVersion) → at c.versions k ≡ Some v → all_hold (live_tests (rows_in c) (k, v)) ≡ true
    live_hold = none_means pair_key c.versions spec.version (live_tests (rows_in c)) packages.1.1.1

    needs_hold : (k : Texts 3) (v : Unit {0}) → at c.need_ranges k ≡ Some v → all_hold (need_tests (rows_in c) (k, v)) ≡ true
    needs_hold = none_means (texts_key 3) c.need_ranges spec.need (need_tests (rows_in c)) versions.1.0

    held_hold : (k : Pair) (v : ℤ) → at c.held k ≡ Some v → all_hold (held_tests (rows_in c) (k, v)) ≡ true
    held_hold = none_means pair_key c.held spec.held (held_tests (rows_in c)) versions.1.1.0

    archives_hold : (n : ℤ) (a : Archive) → at c.archives n ≡ Some a → (is_held (rows_in c) n ≡ true) × ((is a.integrity (integrity_text a.bytes) ≡ true) × (is_first c.archives n a ≡ true))
    archives_hold n a h =
        let all = none_means number_key c.archives spec.archive (archive_tests (rows_in c) c.archives) versions.1.1.1 n a h in
        let one = and_parts (is_held (rows_in c) n) _ all in
        let two = and_parts (is a.integrity (integrity_text a.bytes)) _ one.1 in
        (one.0, (two.0, (and_parts (is_first c.archives n a) true two.1).0))

    -- references

    owned : (o : Text) → IsSome (at c.organisations o) → (u : Text) × (at (access_of c).roles (o, u) ≡ Some Owner)
    owned o h =
        let value = value_of (at c.organisations o) h in
        let one = and_parts (has_owner (rows_in c) o) _ (organisations_hold o value.0 value.1) in
        let some = any_at pair_key (λ (e : Pair × Role). is e.0.0 o && is_owner (Some e.1)) (access_of c).roles one.0 in
        let both = and_parts (is some.0.0 o) (is_owner (Some some.1.0)) some.1.2 in (
          some.0.1,
          subst (λ (q : Text). at (access_of c).roles (q, some.0.1) ≡ Some Owner) (same_true text_key some.0.0 o both.0)
              (some.1.1 ∙ ap (λ (r : Role). Some r) (is_its_owner some.1.0 both.1)),
        )

    first_team : (o : Text) → IsSome (at c.organisations o) → IsSome (at c.teams (o, developers))
    first_team o h =
        let value = value_of (at c.organisations o) h in
        let one = and_parts (has_owner (rows_in c) o) _ (organisations_hold o value.0 value.1) in
        sym (has_at pair_key c.teams (o, developers)) ∙ (and_parts (has pair_is (entries c.teams) (o, developers)) true one.1).0

    member_of : (o u : Text) → IsSome (at (access_of c).roles (o, u)) → IsSome (at c.organisations o) × IsSome (at c.users u)
    member_of o u h =
        let value = value_of (at (access_of c).roles (o, u)) h in
        let one = and_parts (has is (entries c.organisations) o) _ (members_hold (o, u) value.0 value.1) in
        (sym (has_at text_key c.organisations o) ∙ one.0, sym (has_at text_key c.users u) ∙ (and_parts (has is (entries c.users) u) true one.1).0)

    team_of : (o t : Text) → IsSome (at c.teams (o, t)) → IsSome (at c.organisations o)
    team_of o t h =
        let value = value_of (at c.teams (o, t)) h in
        sym (has_at text_key c.organisations o) ∙ (and_parts (has is (entries c.organisations) o) true (teams_hold (o, t) value.0 value.1)).0

    team_member_of : (o t u : Text) → IsSome (at c.team_members (o, (t, u))) → IsSome (at c.teams (o, t)) × IsSome (at (access_of c).roles (o, u))
    team_member_of o t u h =
        let value = value_of (at c.team_members (o, (t, u))) h in
        let one = and_parts (has pair_is (entries c.teams) (o, t)) _ (team_members_hold o t u value.0 value.1) in
        (sym (has_at pair_key c.teams (o, t)) ∙ one.0, sym (has_at pair_key (access_of c).roles (o, u)) ∙ (and_parts (has pair_is (entries (access_of c).roles) (o, u)) true one.1).0)

    maintainer_of : (p u : Text) → IsSome (at c.owners (p, u)) → IsSome (at (access_of c).statuses p) × IsSome (at c.users u)
    maintainer_of p u h =
        let value = value_of (at c.owners (p, u)) h in
        let one = and_parts (has is (entries (access_of c).statuses) p) _ (maintainers_hold (p, u) value.0 value.1) in
        (sym (has_at text_key (access_of c).statuses p) ∙ one.0, sym (has_at text_key c.users u) ∙ (and_parts (has is (entries c.users) u) true one.1).0)

    package_keeps : (p : Text) (v : Status) → at (access_of c).statuses p ≡ Some v → scope_of p ≡ None → (is_public v ≡ true) × (has_maintainer (rows_in c) p ≡ true)
    package_keeps p v h bare =
        let one = and_parts (not (is_none (scope_of p)) || is_public v) _ (packages_hold p v h) in
        (unscoped (scope_of p) (is_public v) one.0 bare, unscoped (scope_of p) (has_maintainer (rows_in c) p) (and_parts _ true one.1).0 bare)

    maintained : (p : Text) → IsSome (at (access_of c).statuses p) → scope_of p ≡ None → (u : Text) × IsSome (at c.owners (p, u))
    maintained p h bare =
        let value = value_of (at (access_of c).statuses p) h in
        let some = any_at pair_key (λ (e : Pair × Unit {0}). is e.0.0 p) c.owners (package_keeps p value.0 value.1 bare).1 in
        (some.0.1, subst (λ (q : Text). IsSome (at c.owners (q, some.0.1))) (same_true text_key some.0.0 p some.1.2) (there _ some.1.0 some.1.1))

    references_hold : IsSound (access_of c)
    references_hold = record {
      tokens = λ d u h. sym (has_at text_key c.users u) ∙ (and_parts (has is (entries c.users) u) true (tokens_hold d u h)).0;
      roles = member_of;
      owners = owned;
      first_teams = first_team;
      teams = team_of;
      team_members = team_member_of;
      grants = grants_hold;
      maintainers = maintainer_of;
      unscoped = λ p bare h. not_restricted Restricted (package_keeps p Restricted h bare).0 refl;
      maintained = maintained;
    }

    -- needs

    need_named : (p v target range : Text) → is_some (at c.need_ranges (p, (v, (target, range)))) ≡ true → is_needed c.versions p v target range ≡ true
    need_named p v target range h =
        let value = value_of (at c.need_ranges (p, (v, (target, range)))) h in
        let holds = (and_parts (is_named (rows_in c) (p, (v, (target, range)))) true (needs_hold (p, (v, (target, range))) value.0 value.1)).0 in
        let some = any_at pair_key (λ (e : Pair × LiveVersion). pair_is e.0 (p, v) && names_if_any target range (needs_of e.1.manifest)) c.versions holds in
        let both = and_parts (pair_is some.0 (p, v)) (names_if_any target range (needs_of some.1.0.manifest)) some.1.2 in
        let found : at c.versions (p, v) ≡ Some some.1.0 = subst (λ (k : Pair). at c.versions k ≡ Some some.1.0) (same_true pair_key some.0 (p, v) both.0) some.1.1 in
        ap (λ o. names_if_any target range (option_and_then (λ (release : LiveVersion). needs_of release.manifest) o)) found ∙ both.1

    stored_if_named : (p v target range : Text) (release : LiveVersion) (needs : Option (List Need)) → are_stored (rows_in c) (p, v) needs ≡ true → names_if_any target range needs ≡ true
        → is_some (at c.need_ranges (p, (v, (target, range)))) ≡ true
    stored_if_named p v target range release None all h = absurd (true≢false (sym h))
    stored_if_named p v target range release (Some needs) all h =
        let it = stored_all (λ need. has need_is (entries c.need_ranges) (p, (v, (need.target, need.range)))) needs all target range h in
        ap₂ (λ (t r : Text). is_some (at c.need_ranges (p, (v, (t, r))))) (sym it.1.1.0) (sym it.1.1.1)
        ∙ sym (has_at (texts_key 3) c.need_ranges (p, (v, (it.0.target, it.0.range)))) ∙ it.1.0

    named_stored : (p v target range : Text) (o : Option LiveVersion) → at c.versions (p, v) ≡ o → names_if_any target range (option_and_then (λ (release : LiveVersion). needs_of release.manifest) o) ≡ true
        → is_some (at c.need_ranges (p, (v, (target, range)))) ≡ true
    named_stored p v target range None e h = absurd (true≢false (sym h))
    named_stored p v target range (Some release) e h =
        stored_if_named p v target range release (needs_of release.manifest) (and_parts (are_stored (rows_in c) (p, v) (needs_of release.manifest)) _ (live_hold (p, v) release e)).0 h

    needs_are : HoldsNeeds c
    needs_are = record { stored = λ p v target range. both_ways _ _ (need_named p v target range) (named_stored p v target range (at c.versions (p, v)) refl) }

    -- archives

    version_has : (k : Pair) → is_some (at c.versions k) ≡ true → is_some (at c.held k) ≡ true
    version_has k h =
        let value = value_of (at c.versions k) h in
        let one = and_parts (are_stored (rows_in c) k (needs_of value.0.manifest)) _ (live_hold k value.0 value.1) in
        sym (has_at pair_key c.held k) ∙ (and_parts (has pair_is (entries c.held) k) _ one.1).0

    held_lives : (k : Pair) (n : ℤ) → at c.held k ≡ Some n → (is_some (at c.versions k) ≡ true) × (is_some (at c.archives n) ≡ true)
    held_lives k n h =
        let one = and_parts (has pair_is (entries c.versions) k) _ (held_hold k n h) in
        (sym (has_at pair_key c.versions k) ∙ one.0, sym (seen_at number_key (λ (a : Archive). a.integrity) c.archives n) ∙ (and_parts (has int_eq (integrities c.archives) n) true one.1).0)

    archive_had : (n : ℤ) (a : Archive) → at c.archives n ≡ Some a → (k : Pair) × (at c.held k ≡ Some n)
    archive_had n a h =
        let some = any_at pair_key (λ (e : Pair × ℤ). int_eq e.1 n) c.held (archives_hold n a h).0 in
        (some.0, some.1.1 ∙ ap (λ (z : ℤ). Some z) (same_true number_key some.1.0 n some.1.2))

    archive_integrity : (n : ℤ) (a : Archive) → at c.archives n ≡ Some a → a.integrity ≡ integrity_text a.bytes
    archive_integrity n a h = same_true text_key a.integrity (integrity_text a.bytes) (archives_hold n a h).1.0

    abbrev first_number : Archive → Option ℤ
    first_number a = option_map (λ (e : ℤ × Archive). e.0) (find (λ (e : ℤ × Archive). is_archive a.integrity a.bytes e.1) (entries c.archives))

    archive_once : (m n : ℤ) (a b : Archive) → at c.archives m ≡ Some a → at c.archives n ≡ Some b → a.bytes ≡ b.bytes → m ≡ n
    archive_once m n a b h i same =
        let one : first_number a ≡ Some m = its_number m (first_number a) (archives_hold m a h).1.1 in
        let two : first_number b ≡ Some n = its_number n (first_number b) (archives_hold n b i).1.1 in
        let texts : a.integrity ≡ b.integrity = archive_integrity m a h ∙ ap integrity_text same ∙ sym (archive_integrity n b i) in
        some_inside m n (sym one ∙ ap first_number (ap₂ (λ (t : Text) (bytes : List ℕ). record { integrity = t; bytes = bytes }) texts same) ∙ two)

    archives_are : HoldsArchives c
    archives_are = record {
      lives = λ k. both_ways _ _ (λ h. let value = value_of (at c.held k) h in (held_lives k value.0 value.1).0) (version_has k);
      stored = λ k n h. (held_lives k n h).1;
      had = archive_had;
      integrity = archive_integrity;
      once = archive_once;
      bare = λ k release h.
          let one = and_parts (are_stored (rows_in c) k (needs_of release.manifest)) _ (live_hold k release h) in
          let two = and_parts (has pair_is (entries c.held) k) _ one.1 in
          nothing_there release.archive (and_parts (length release.archive == 0) true two.1).0;
    }

    premises_hold : MeetsPremises c
    premises_hold = record { references = references_hold; grants = λ o t p h. (grants_hold o t p (some-read triple_key c.grants (λ _ n. grant_of n) (o, (t, p)) ∙ h)).scope; needs = needs_are; archives = archives_are }

  -- ---- where the premises hold

  module _ (met : MeetsPremises c) where
    refer : IsSound (access_of c)
    refer = met.references

    owner_there : (o : Text) → IsSome (at c.organisations o) → has_owner (rows_in c) o ≡ true
    owner_there o h = let it = refer.owners o h in at_any pair_key (λ (e : Pair × Role). is e.0.0 o && is_owner (Some e.1)) (access_of c).roles (o, it.0) Owner it.1 (and_from _ _ (same_self text_key o) refl)

    maintainer_there : (p : Text) → IsSome (at (access_of c).statuses p) → scope_of p ≡ None → has_maintainer (rows_in c) p ≡ true
    maintainer_there p h bare =
        let it = refer.maintained p h bare in
        let value = value_of (at c.owners (p, it.0)) it.1 in
        at_any pair_key (λ (e : Pair × Unit {0}). is e.0.0 p) c.owners (p, it.0) value.0 value.1 (same_self text_key p)

    user_there : (u : Text) → IsSome (at c.users u) → has is (entries c.users) u ≡ true
    user_there u h = has_at text_key c.users u ∙ h

    organisation_there : (o : Text) → IsSome (at c.organisations o) → has is (entries c.organisations) o ≡ true
    organisation_there o h = has_at text_key c.organisations o ∙ h

    team_there : (o t : Text) → IsSome (at c.teams (o, t)) → has pair_is (entries c.teams) (o, t) ≡ true
    team_there o t h = has_at pair_key c.teams (o, t) ∙ h

    package_there : (p : Text) → IsSome (at (access_of c).statuses p) → has is (entries (access_of c).statuses) p ≡ true
    package_there p h = has_at text_key (access_of c).statuses p ∙ h

    tokens_fine : token_problems (rows_in c) ≡ []
    tokens_fine = means_none text_key c.tokens spec.token (token_tests (rows_in c)) (λ d u h. and_from _ true (user_there u (refer.tokens d u h)) refl)

    organisations_fine : organisation_problems (rows_in c) ≡ []
    organisations_fine = means_none text_key c.organisations spec.organisation (organisation_tests (rows_in c)) (λ o v h.
        let some = there _ v h in and_from _ _ (owner_there o some) (and_from _ true (team_there o developers (refer.first_teams o some)) refl))

    members_fine : member_problems (rows_in c) ≡ []
    members_fine = means_none pair_key (access_of c).roles spec.member (member_tests (rows_in c)) (λ k v h.
        let it = refer.roles k.0 k.1 (there _ v h) in and_from _ _ (organisation_there k.0 it.0) (and_from _ true (user_there k.1 it.1) refl))

    teams_fine : team_problems (rows_in c) ≡ []
    teams_fine = means_none pair_key c.teams spec.team (team_tests (rows_in c)) (λ k v h. and_from _ true (organisation_there k.0 (refer.teams k.0 k.1 (there _ v h))) refl)

    team_members_fine : team_member_problems (rows_in c) ≡ []
    team_members_fine = means_none triple_key c.team_members spec.team_member (team_member_tests (rows_in c)) (λ k v h.
        let it = refer.team_members k.0 k.1.0 k.1.1 (there _ v h) in
        and_from _ _ (team_there k.0 k.1.0 it.0) (and_from _ true (has_at pair_key (access_of c).roles (k.0, k.1.1) ∙ it.1) refl))

    published_fine : published_problems (rows_in c) ≡ []
    published_fine = means_none text_key (access_of c).statuses spec.package_of (package_tests (rows_in c)) (λ p v h.
        and_from _ _ (or_scoped (scope_of p) (is_public v) (λ bare. public_else v (λ e. refer.unscoped p bare (h ∙ ap (λ (s : Status). Some s) e))))
        (and_from _ true (or_scoped (scope_of p) (has_maintainer (rows_in c) p) (maintainer_there p (there _ v h))) refl))

    grants_fine : grant_problems (rows_in c) ≡ []
    grants_fine = means_none triple_key (access_of c).grants spec.grant (grant_tests (rows_in c)) (λ k v h.
        let it = refer.grants k.0 k.1.0 k.1.1 (there _ v h) in
        and_from _ _ (team_there k.0 k.1.0 it.team) (and_from _ _ (package_there k.1.1 it.status) (and_from _ true (scope_in k.0 (scope_of k.1.1) it.scope) refl)))

    maintainers_fine : maintainer_problems (rows_in c) ≡ []
    maintainers_fine = means_none pair_key c.owners spec.maintainer (maintainer_tests (rows_in c)) (λ k v h.
        let it = refer.maintainers k.0 k.1 (there _ v h) in and_from _ _ (package_there k.0 it.0) (and_from _ true (user_there k.1 it.1) refl))

    -- needs

    is_named_there : (p v target range : Text) (o : Option LiveVersion) → at c.versions (p, v) ≡ o → names_if_any target range (option_and_then (λ (release : LiveVersion). needs_of release.manifest) o) ≡ true
        → is_named (rows_in c) (p, (v, (target, range))) ≡ true
    is_named_there p v target range None e h = absurd (true≢false (sym h))
    is_named_there p v target range (Some release) e h =
        at_any pair_key (λ (e : Pair × LiveVersion). pair_is e.0 (p, v) && names_if_any target range (needs_of e.1.manifest)) c.versions (p, v) release e (and_from _ _ (same_self pair_key (p, v)) h)

    needs_fine : need_problems (rows_in c) ≡ []
    needs_fine = means_none (texts_key 3) c.need_ranges spec.need (need_tests (rows_in c)) (λ k u h.
        let needed : is_needed c.versions k.0 k.1.0 k.1.1.0 k.1.1.1 ≡ true = sym (met.needs.stored k.0 k.1.0 k.1.1.0 k.1.1.1) ∙ there _ u h in
        and_from _ true (is_named_there k.0 k.1.0 k.1.1.0 k.1.1.1 (at c.versions (k.0, k.1.0)) refl needed) refl)

    are_stored_there : (k : Pair) (release : LiveVersion) → at c.versions k ≡ Some release → (needs : Option (List Need)) → needs_of release.manifest ≡ needs → are_stored (rows_in c) k needs ≡ true
    are_stored_there k release h None e = refl
    are_stored_there k release h (Some needs) e = all_stored (λ need. has need_is (entries c.need_ranges) (k.0, (k.1, (need.target, need.range)))) needs (λ need named.
        has_at (texts_key 3) c.need_ranges (k.0, (k.1, (need.target, need.range))) ∙ met.needs.stored k.0 k.1 need.target need.range
        ∙ ap (λ o. names_if_any need.target need.range (option_and_then (λ (r : LiveVersion). needs_of r.manifest) o)) h ∙ ap (names_if_any need.target need.range) e ∙ named)

    -- archives

    live_fine : live_problems (rows_in c) ≡ []
    live_fine = means_none pair_key c.versions spec.version (live_tests (rows_in c)) (λ k release h.
        and_from _ _ (are_stored_there k release h (needs_of release.manifest) refl)
        (and_from _ _ (has_at pair_key c.held k ∙ met.archives.lives k ∙ there _ release h) (and_from _ true (ap (λ (bytes : List ℕ). length bytes == 0) (met.archives.bare k release h)) refl)))

    held_fine : held_problems (rows_in c) ≡ []
    held_fine = means_none pair_key c.held spec.held (held_tests (rows_in c)) (λ k n h.
        and_from _ _ (has_at pair_key c.versions k ∙ sym (met.archives.lives k) ∙ there _ n h)
        (and_from _ true (seen_at number_key (λ (a : Archive). a.integrity) c.archives n ∙ met.archives.stored k n h) refl))

    held_there : (n : ℤ) (a : Archive) → at c.archives n ≡ Some a → is_held (rows_in c) n ≡ true
    held_there n a h = let it = met.archives.had n a h in at_any pair_key (λ (e : Pair × ℤ). int_eq e.1 n) c.held it.0 n it.1 (same_self number_key n)

    first_there : (n : ℤ) (a : Archive) → at c.archives n ≡ Some a → is_first c.archives n a ≡ true
    first_there n a h =
        let like : ℤ × Archive → Bool = λ e. is_archive a.integrity a.bytes e.1 in
        let here = at_any number_key like c.archives n a h (and_from _ _ (same_self text_key a.integrity) (same_self text_key a.bytes)) in
        let it = first_passes number_key like c.archives here in
        let bytes : a.bytes ≡ it.1.0.bytes = same_true text_key a.bytes it.1.0.bytes (and_parts (is a.integrity it.1.0.integrity) _ it.1.2.1).1 in
        ap (λ o. numbered n (option_map (λ (e : ℤ × Archive). e.0) o)) it.1.1
        ∙ ap (λ (m : ℤ). int_eq m n) (met.archives.once it.0 n it.1.0 a it.1.2.0 h (sym bytes)) ∙ same_self number_key n

    archives_fine : archive_problems (rows_in c) c.archives ≡ []
    archives_fine = means_none number_key c.archives spec.archive (archive_tests (rows_in c) c.archives) (λ n a h.
        and_from _ _ (held_there n a h) (and_from _ _ (ap (is a.integrity) (sym (met.archives.integrity n a h)) ∙ same_self text_key a.integrity) (and_from _ true (first_there n a h) refl)))

    none_broken : premise_problems (rows_in c) c.archives ≡ []
    none_broken =
        four_nil (token_problems (rows_in c) ++ organisation_problems (rows_in c) ++ member_problems (rows_in c) ++ team_problems (rows_in c) ++ team_member_problems (rows_in c) ++ published_problems (rows_in c) ++ grant_problems (rows_in c) ++ maintainer_problems (rows_in c) ++ live_problems (rows_in c)) (need_problems (rows_in c)) (held_problems (rows_in c)) (archive_problems (rows_in c) c.archives)
        (four_nil (token_problems (rows_in c) ++ organisation_problems (rows_in c) ++ member_problems (rows_in c) ++ team_problems (rows_in c) ++ team_member_problems (rows_in c) ++ published_problems (rows_in c)) (grant_problems (rows_in c)) (maintainer_problems (rows_in c)) (live_problems (rows_in c))
        (four_nil (token_problems (rows_in c) ++ organisation_problems (rows_in c) ++ member_problems (rows_in c)) (team_problems (rows_in c)) (team_member_problems (rows_in c)) (published_problems (rows_in c))
        (ap₂ (λ x y. x ++ y) (ap₂ (λ x y. x ++ y) tokens_fine organisations_fine) members_fine) teams_fine team_members_fine published_fine)
        grants_fine maintainers_fine live_fine) needs_fine held_fine archives_fine

-- no row breaks a rule exactly where the premises hold
pub none_means_premises : (c : Contents) → TellsPremises (premise_problems (rows_in c) c.archives) c
none_means_premises c = (premises_hold c, none_broken c)
