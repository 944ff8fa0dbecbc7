-- No row breaks a rule exactly where the registry is right.
use Rattle.std.proofs.Common.{◌≡◌, ◌∙◌, ◌==◌, ℕ, ℤ, ◌≤◌, ◌≤ℤ◌, Bool, true, false, not, ◌&&◌, ◌||◌, List, [], ◌∷◌, ◌++◌, map, find, length, is_none, is_some, option_and_then, option_map, refl, sym, ap, ap₂, subst, true≢false, Some, None, Option, IsSome, IsTrue, T, cond}
use Rattle.std.specs.Int.Signed.{le_z_yes}
use Rattle.std.specs.Ordering.{int_eq}
use Rattle.std.specs.Prelude.{int_le}
use Rattle.std.proofs.lemmas.Bool.{and_from, and_parts, eqb-true}
use Rattle.serde_json.specs.Data.{Data}
use Rattle.serde_json.specs.Read.{read}
use Rattle.sqlite_trees.specs.Tree.{Trees}
use Rattle.sqlite_value.specs.Order.{Row}
use Rattle.registry_names.specs.Idents.{is_ident}
use Rattle.registry_names.specs.Keys.{Pair, Triple, pair_is}
use Rattle.registry_names.specs.Maps.{at, entries, first_at, seen}
use Rattle.registry_names.specs.Messages.{is_message}
use Rattle.registry_names.specs.Moments.{last_second}
use Rattle.registry_names.specs.Names.{IsName, scope_of}
use Rattle.registry_names.specs.Tags.{is_tag, latest}
use Rattle.registry_names.specs.Texts.{Text, is}
use Rattle.registry_names.specs.declared.status.Status.{Status}
use Rattle.registry_names.proofs.KeyFacts.{pair_key, same_self, same_true, text_key, triple_key}
use Rattle.registry_names.proofs.MapFacts.{at-entries}
use Rattle.registry_publish.specs.Integrity.{has_integrity}
use Rattle.registry_ranges.specs.Grammar.{IsRangeText}
use Rattle.registry_rules.specs.Kept.{IsKept, IsReleaseOf, IsSpelled, IsTagOf, IsWithdrawalOf}
use Rattle.registry_rules.specs.State.{Release, Withdrawal, is_live}
use Rattle.registry_rows.specs.Counting.{counted}
use Rattle.registry_rows.proofs.KeyedFacts.{number_key}
use Rattle.registry_tables.specs.Contents.{Archive, Contents, LiveVersion, SpentVersion, access_of, as_withdrawal, contents, live_of, registry_of, with_bytes}
use Rattle.registry_tables.specs.Numbers.{is_level, is_moment, is_role, is_status, seconds_of}
use Rattle.registry_tables.specs.Ranges.{HasNumbersInRange}
use Rattle.registry_tables.proofs.ReadFacts.{at-read, read_there}
use Rattle.registry_tables.proofs.LiveFacts.{lives_as_row}
use Rattle.registry_check.specs.Counter.{CountsArchives, count_of, is_count, is_counted}
use Rattle.registry_check.specs.FormRules.{counter_forms, has_live, has_scope_of, held_integrity, integrity_under, level_forms, maintainer_forms, moment_forms, number_forms, organisation_forms, package_forms, role_forms, spent_forms, states_held, status_forms, tag_forms, target_forms, team_forms, token_forms, user_forms, version_forms}
use Rattle.registry_check.specs.Forms.{is_manifest_text, is_name, is_range, is_version, states_in}
use Rattle.registry_check.specs.Numbers.{Numbers, numbers_in}
use Rattle.registry_check.specs.Premises.{MeetsPremises, rows_in}
use Rattle.registry_check.specs.Problems as spec
use Rattle.registry_check.specs.Problems.{counted_problems, counter_problems, level_problems, maintainer_form_problems, moment_problems, name_problems, number_problems, organisation_form_problems, package_form_problems, premise_problems, problems, release_problems, role_problems, spent_problems, status_problems, tag_problems, target_problems, team_form_problems, token_form_problems, user_form_problems, version_form_problems}
use Rattle.registry_check.specs.Right.{HoldsRight, TellsRight, first_told, problems_at, rows_at}
use Rattle.registry_check.specs.Readable.{text_problems}
use Rattle.registry_check.specs.Rows.{Rows}
use Rattle.registry_check.specs.Rules.{has}
use Rattle.registry_check.specs.declared.problem.Problem.{Problem}
use Rattle.registry_check.proofs.CounterFacts.{counted_whole}
use Rattle.registry_check.proofs.EachFacts.{all_hold, any_at, at_any, broken_none, has_at, means_none, means_none_seen, nil_parts, none_broken as unbroken, none_means, none_means_seen, there, value_of}
use Rattle.registry_check.proofs.FormFacts.{in_time, is_manifest_text_of, is_name_of, is_range_of, is_version_of, manifest_text_is, name_is, range_is, version_is}
use Rattle.registry_check.proofs.PremiseFacts.{none_means_premises, nothing_there}
use Rattle.registry_check.proofs.ReadableFacts.{none_readable, readable_none}

-- ---- tests

no_scope : (o : Option Text) → is_none o ≡ true → o ≡ None
no_scope None h = refl
no_scope (Some s) h = absurd (true≢false (sym h))

scope_none : (o : Option Text) → o ≡ None → is_none o ≡ true
scope_none o e = ap is_none e

not_both : (a b : Bool) → (not a || b) ≡ true → a ≡ true → b ≡ true
not_both a b h e = rw e at h

where_live : (a b : Bool) → (a ≡ true → b ≡ true) → (not a || b) ≡ true
where_live true b f = f refl
where_live false b f = refl

gone : (b : Bool) → not b ≡ true → b ≡ false
gone true h = absurd (true≢false (sym h))
gone false h = refl

no_true : (b : Bool) → (b ≡ true → ⊥) → not b ≡ true
no_true true f = absurd (f refl)
no_true false f = refl

ordered : (a b : ℤ) → int_le a b ≡ true → a ≤ℤ b
ordered a b h = le_z_yes (subst T (sym h) tt)

order_of : (a b : ℤ) → a ≤ℤ b → int_le a b ≡ true
order_of a b h = is_so (int_le a b) h.le
  where
    is_so : (x : Bool) → T x → x ≡ true
    is_so true t = refl
    is_so false t = absurd t

never : (b : Bool) → false ≡ true → ⊥
never b h = true≢false (sym h)

-- the value of the first row with a key, by either search
found_first : {K X : Type 0} (same : K → K → Bool) (es : List (K × X)) (k : K) → option_map (λ (e : K × X). e.1) (find (λ (e : K × X). same e.0 k) es) ≡ first_at same es k
found_first same [] k = refl
found_first {K} {X} same (e ∷ es) k = each (found_first same es k) (same e.0 k)
  where
    each : (option_map (λ (e : K × X). e.1) (find (λ (e : K × X). same e.0 k) es) ≡ first_at same es k) → (b : Bool) → option_map (λ (e : K × X). e.1) (cond b (Some e) (find (λ (e : K × X). same e.0 k) es)) ≡ cond b (Some e.1) (first_at same es k)
    each next true = refl
    each next false = next

found_integrity : (es : List (ℤ × Archive)) (n : ℤ) → option_map (λ (e : ℤ × Text). e.1) (find (λ (e : ℤ × Text). int_eq e.0 n) (map (seen (λ (a : Archive). a.integrity)) es)) ≡ option_map (λ (a : Archive). a.integrity) (first_at int_eq es n)
found_integrity [] n = refl
found_integrity (e ∷ es) n = each (found_integrity es n) (int_eq e.0 n)
  where
    each : (option_map (λ (e : ℤ × Text). e.1) (find (λ (e : ℤ × Text). int_eq e.0 n) (map (seen (λ (a : Archive). a.integrity)) es)) ≡ option_map (λ (a : Archive). a.integrity) (first_at int_eq es n)) → (b : Bool)
        → option_map (λ (e : ℤ × Text). e.1) (cond b (Some (e.0, e.1.integrity)) (find (λ (e : ℤ × Text). int_eq e.0 n) (map (seen (λ (a : Archive). a.integrity)) es))) ≡ option_map (λ (a : Archive). a.integrity) (cond b (Some e.1) (first_at int_eq es n))
    each next true = refl
    each next false = next

-- ---- lists of problems

nil_five : {X : Type 0} (x a b c d : List X) → x ++ a ++ b ++ c ++ d ≡ [] → (x ≡ []) × ((a ≡ []) × ((b ≡ []) × ((c ≡ []) × (d ≡ []))))
nil_five x a b c d h =
    let last = nil_parts (x ++ a ++ b ++ c) d h in
    let three = nil_parts (x ++ a ++ b) c last.0 in
    let two = nil_parts (x ++ a) b three.0 in
    let one = nil_parts x a two.0 in
    (one.0, (one.1, (two.1, (three.1, last.1))))

nil_two : {X : Type 0} (a b : List X) → a ≡ [] → b ≡ [] → a ++ b ≡ []
nil_two a b p q = ap₂ (λ x y. x ++ y) p q

five_nil : {X : Type 0} (x a b c d : List X) → x ≡ [] → a ≡ [] → b ≡ [] → c ≡ [] → d ≡ [] → x ++ a ++ b ++ c ++ d ≡ []
five_nil x a b c d o p q r s = nil_two (x ++ a ++ b ++ c) d (nil_two (x ++ a ++ b) c (nil_two (x ++ a) b (nil_two x a o p) q) r) s

-- ---- what contents say of numbers

-- a live version was published at its number
at_moment : (c : Contents) (k : Pair) (row : LiveVersion) → at c.versions k ≡ Some row → at (numbers_in c).moments k ≡ Some row.published
at_moment c k row h = at-read pair_key c.versions (λ _ v. v.published) k ∙ ap (option_map (λ (v : LiveVersion). v.published)) h

-- a withdrawal has the moments of its numbers
at_moments : (c : Contents) (k : Pair) (w : Withdrawal) → at (registry_of c).spent k ≡ Some w → (z : ℤ × ℤ) × ((at (numbers_in c).spent k ≡ Some z) × ((w.published ≡ seconds_of z.0) × (w.withdrawn ≡ seconds_of z.1)))
at_moments c k w h =
    let row = read_there pair_key c.spent (λ _ v. as_withdrawal v) k w h in (
      (row.0.published, row.0.withdrawn),
      (
        at-read pair_key c.spent (λ _ v. (v.published, v.withdrawn)) k ∙ ap (option_map (λ (v : SpentVersion). (v.published, v.withdrawn))) row.1,
        (ap (λ (r : Withdrawal). r.published) (sym row.2), ap (λ (r : Withdrawal). r.withdrawn) (sym row.2)),
      ),
    )

-- where there are numbers, there is the row
spent_there : (c : Contents) (k : Pair) (z : ℤ × ℤ) → at (numbers_in c).spent k ≡ Some z → (v : SpentVersion) × (at c.spent k ≡ Some v) × ((v.published, v.withdrawn) ≡ z)
spent_there c k z h = read_there pair_key c.spent (λ _ v. (v.published, v.withdrawn)) k z h

-- a live version of the state is one of the table
live_row : (c : Contents) (k : Pair) (release : Release) → at (live_of c) k ≡ Some release → (r : LiveVersion) × ((at c.versions k ≡ Some r) × (with_bytes c k r ≡ release))
live_row c k release h = let row = read_there pair_key c.versions (with_bytes c) k release h in (row.0, (row.1, row.2))

row_live : (c : Contents) (k : Pair) (r : LiveVersion) → at c.versions k ≡ Some r → at (live_of c) k ≡ Some (with_bytes c k r)
row_live c k r h = at-read pair_key c.versions (with_bytes c) k ∙ ap (option_map (with_bytes c k)) h

-- the integrity stored with the archive of a version
integrity_at : (c : Contents) (k : Pair) → held_integrity (rows_in c) k ≡ option_and_then (λ (n : ℤ). option_map (λ (a : Archive). a.integrity) (at c.archives n)) (at c.held k)
integrity_at c k =
    ap (option_and_then (integrity_under (rows_in c))) (found_first pair_is (entries c.held) k ∙ sym (at-entries pair_key c.held k)) ∙ each (at c.held k)
  where
    each : (o : Option ℤ) → option_and_then (integrity_under (rows_in c)) o ≡ option_and_then (λ (n : ℤ). option_map (λ (a : Archive). a.integrity) (at c.archives n)) o
    each None = refl
    each (Some n) = found_integrity (entries c.archives) n ∙ ap (option_map (λ (a : Archive). a.integrity)) (sym (at-entries number_key c.archives n))

no_value : {X : Type 0} (x : X) → None ≡ Some x → ⊥
no_value x e = cc

module _ (db : Trees) where
  abbrev c : Contents
  c = contents db

  abbrev nums : Numbers
  nums = numbers_in (contents db)

  abbrev all : Rows
  all = rows_at db

  -- ---- where no row breaks a rule

  module _ (none : problems all c.archives ≡ []) where
    told : (release_problems all c.archives ++ counted_problems all ≡ []) × (counter_problems all ≡ [])
    told = nil_parts (release_problems all c.archives ++ counted_problems all) (counter_problems all) none

    numbered : (release_problems all c.archives ≡ []) × (counted_problems all ≡ [])
    numbered = nil_parts (release_problems all c.archives) (counted_problems all) told.0

    releases : (number_problems all c.archives ≡ []) × ((version_form_problems all ≡ []) × ((spent_problems all ≡ []) × ((tag_problems all ≡ []) × (target_problems all ≡ []))))
    releases = nil_five (number_problems all c.archives) (version_form_problems all) (spent_problems all) (tag_problems all) (target_problems all) numbered.0

    numbers : (name_problems all c.archives ≡ []) × ((role_problems all ≡ []) × ((status_problems all ≡ []) × ((level_problems all ≡ []) × (moment_problems all ≡ []))))
    numbers = nil_five (name_problems all c.archives) (role_problems all) (status_problems all) (level_problems all) (moment_problems all) releases.0

    names : (premise_problems all c.archives ++ user_form_problems all ++ token_form_problems all ≡ []) × ((organisation_form_problems all ≡ []) × ((team_form_problems all ≡ []) × ((package_form_problems all ≡ []) × (maintainer_form_problems all ≡ []))))
    names = nil_five (premise_problems all c.archives ++ user_form_problems all ++ token_form_problems all) (organisation_form_problems all) (team_form_problems all) (package_form_problems all) (maintainer_form_problems all) numbers.0

    accounts : (premise_problems all c.archives ++ user_form_problems all ≡ []) × (token_form_problems all ≡ [])
    accounts = nil_parts (premise_problems all c.archives ++ user_form_problems all) (token_form_problems all) names.0

    first : (premise_problems all c.archives ≡ []) × (user_form_problems all ≡ [])
    first = nil_parts (premise_problems all c.archives) (user_form_problems all) accounts.0

    -- what the rules say of each key and its value

    packages_hold : (p : Text) (v : Status) → at (access_of c).statuses p ≡ Some v → all_hold (package_forms all (p, v)) ≡ true
    packages_hold = none_means text_key (access_of c).statuses spec.package_of (package_forms all) names.1.1.1.0

    versions_hold : (k : Pair) (v : LiveVersion) → at c.versions k ≡ Some v → all_hold (version_forms all (k, v)) ≡ true
    versions_hold = none_means pair_key c.versions spec.version (version_forms all) releases.1.0

    spent_hold : (k : Pair) (v : ℤ × ℤ) → at nums.spent k ≡ Some v → all_hold (spent_forms all (k, v)) ≡ true
    spent_hold = none_means pair_key nums.spent spec.withdrawn (spent_forms all) releases.1.1.0

    tags_hold : (k : Pair) (v : Text) → at c.tags k ≡ Some v → all_hold (tag_forms all (k, v)) ≡ true
    tags_hold = none_means pair_key c.tags spec.tag (tag_forms all) releases.1.1.1.0

    targets_hold : (k : Triple) (v : Unit {0}) → at c.needs k ≡ Some v → all_hold (target_forms all (k, v)) ≡ true
    targets_hold = none_means triple_key c.needs spec.target (target_forms all) releases.1.1.1.1

    moments_hold : (k : Pair) (z : ℤ) → at nums.moments k ≡ Some z → is_moment z ≡ true
    moments_hold k z h = (and_parts (is_moment z) true (none_means pair_key nums.moments spec.moment (moment_forms all) numbers.1.1.1.1 k z h)).0

    -- names

    user_spelled : (u : Text) → IsSome (at c.users u) → is_ident u ≡ true
    user_spelled u h =
        let value = value_of (at c.users u) h in
        (and_parts (is_ident u) true (none_means text_key c.users spec.user (user_forms all) first.1 u value.0 value.1)).0

    digest_long : (d : Text) → IsSome (at c.tokens d) → length d ≡ 32
    digest_long d h =
        let value = value_of (at c.tokens d) h in
        eqb-true (length d) 32 (and_parts (length d == 32) true (none_means text_key c.tokens spec.token (token_forms all) accounts.1 d value.0 value.1)).0

    organisation_spelled : (o : Text) → IsSome (at c.organisations o) → is_ident o ≡ true
    organisation_spelled o h =
        let value = value_of (at c.organisations o) h in
        (and_parts (is_ident o) true (none_means text_key c.organisations spec.organisation (organisation_forms all) names.1.0 o value.0 value.1)).0

    team_spelled : (o t : Text) → IsSome (at c.teams (o, t)) → is_ident t ≡ true
    team_spelled o t h =
        let value = value_of (at c.teams (o, t)) h in
        (and_parts (is_ident t) true (none_means pair_key c.teams spec.team (team_forms all) names.1.1.0 (o, t) value.0 value.1)).0

    package_spelled : (p : Text) → IsSome (at (access_of c).statuses p) → IsName p
    package_spelled p h =
        let value = value_of (at (access_of c).statuses p) h in
        name_is p (and_parts (is_name p) _ (packages_hold p value.0 value.1)).0

    all_spelled : IsSpelled (access_of c)
    all_spelled = record { users = user_spelled; tokens = digest_long; organisations = organisation_spelled; teams = team_spelled; statuses = package_spelled }

    -- versions

    package_there : (k : Pair) (r : LiveVersion) → at c.versions k ≡ Some r → IsSome (at (access_of c).statuses k.0)
    package_there k r h = sym (has_at text_key (access_of c).statuses k.0) ∙ (and_parts (has is (entries (access_of c).statuses) k.0) _ (versions_hold k r h)).0

    release_form : (p v : Text) (r : LiveVersion) → at c.versions (p, v) ≡ Some r → IsReleaseOf p v (with_bytes c (p, v) r)
    release_form p v r h =
        let one = and_parts (has is (entries (access_of c).statuses) p) _ (versions_hold (p, v) r h) in
        let two = and_parts (is_version v) _ one.1 in
        let three = and_parts (is_manifest_text p v r.manifest) _ two.1 in
        let four = and_parts (states_held (held_integrity all (p, v)) r.manifest) _ three.1 in
        let version = version_is v two.0 in
        record {
          name = package_spelled p (package_there (p, v) r h);
          version = version.0;
          is_version = version.1;
          manifest = manifest_text_is p v version.0 r.manifest version.1.0 three.0;
          at = in_time r.published (moments_hold (p, v) r.published (at_moment c (p, v) r h));
          message = (and_parts (is_message r.message) true four.1).0;
        }

    release_of : (p v : Text) (release : Release) → at (live_of c) (p, v) ≡ Some release → IsReleaseOf p v release
    release_of p v release h = let row = live_row c (p, v) release h in subst (IsReleaseOf p v) row.1.1 (release_form p v row.0 row.1.0)

    row_there : (p v : Text) → is_live (registry_of c) p v ≡ true → (r : LiveVersion) × (at c.versions (p, v) ≡ Some r)
    row_there p v h = value_of (at c.versions (p, v)) (sym (lives_as_row c (p, v)) ∙ h)

    latest_there : (p v : Text) → is_live (registry_of c) p v ≡ true → IsSome (at c.tags (p, latest))
    latest_there p v h =
        let row = row_there p v h in
        let status = value_of (at (access_of c).statuses p) (package_there (p, v) row.0 row.1) in
        let one = and_parts (is_name p) _ (packages_hold p status.0 status.1) in
        let two = and_parts (has_scope_of all (scope_of p)) _ one.1 in
        let three = (and_parts (not (has_live all p) || has pair_is (entries c.tags) (p, latest)) true two.1).0 in
        let lives = at_any pair_key (λ (e : Pair × LiveVersion). is e.0.0 p) c.versions (p, v) row.0 row.1 (same_self text_key p) in
        sym (has_at pair_key c.tags (p, latest)) ∙ not_both (has_live all p) (has pair_is (entries c.tags) (p, latest)) three lives

    withdrawal_of : (p v : Text) (w : Withdrawal) → at (registry_of c).spent (p, v) ≡ Some w → IsWithdrawalOf (registry_of c) p v w
    withdrawal_of p v w h =
        let it = at_moments c (p, v) w h in
        let one = and_parts (has is (entries (access_of c).statuses) p) _ (spent_hold (p, v) it.0 it.1.0) in
        let two = and_parts (is_version v) _ one.1 in
        let three = and_parts (not (has pair_is (entries c.versions) (p, v))) _ two.1 in
        let both = and_parts (is_moment it.0.0) (is_moment it.0.1) (and_parts (is_moment it.0.0 && is_moment it.0.1) true three.1).0 in
        let published : IsSome (at (access_of c).statuses p) = sym (has_at text_key (access_of c).statuses p) ∙ one.0 in
        record {
          name = package_spelled p published;
          version = version_is v two.0;
          published = subst (λ (n : ℕ). n ≤ last_second) (sym it.1.1.0) (in_time it.0.0 both.0);
          withdrawn = subst (λ (n : ℕ). n ≤ last_second) (sym it.1.1.1) (in_time it.0.1 both.1);
          status = published;
          gone = lives_as_row c (p, v) ∙ sym (has_at pair_key c.versions (p, v)) ∙ gone (has pair_is (entries c.versions) (p, v)) three.0;
        }

    tag_of : (p t v : Text) → at c.tags (p, t) ≡ Some v → IsTagOf (registry_of c) p t v
    tag_of p t v h =
        let one = and_parts (is_tag t) _ (tags_hold (p, t) v h) in
        let two = and_parts (not (is_range t)) _ one.1 in
        let there_is : is_some (at c.versions (p, v)) ≡ true = sym (has_at pair_key c.versions (p, v)) ∙ (and_parts (has pair_is (entries c.versions) (p, v)) true two.1).0 in
        let row = value_of (at c.versions (p, v)) there_is in
        record { name = package_spelled p (package_there (p, v) row.0 row.1); tag = one.0; live = lives_as_row c (p, v) ∙ there_is }

    premises_hold : MeetsPremises c
    premises_hold = (none_means_premises c).0 first.0

    all_kept : IsKept (registry_of c)
    all_kept = record {
      live = release_of;
      spent = withdrawal_of;
      tags = tag_of;
      status = λ p v h. let row = row_there p v h in package_there (p, v) row.0 row.1;
      latest = latest_there;
      spelled = all_spelled;
      sound = premises_hold.references;
    }

    -- numbers

    spent_range : (k : Pair) (z : ℤ × ℤ) → at nums.spent k ≡ Some z → IsTrue (is_moment z.0) × IsTrue (is_moment z.1)
    spent_range k z h =
        let one = and_parts (has is (entries (access_of c).statuses) k.0) _ (spent_hold k z h) in
        let two = and_parts (is_version k.1) _ one.1 in
        let three = and_parts (not (has pair_is (entries c.versions) k)) _ two.1 in
        and_parts (is_moment z.0) (is_moment z.1) (and_parts (is_moment z.0 && is_moment z.1) true three.1).0

    in_range : HasNumbersInRange c
    in_range = record {
      roles = λ k z h. (and_parts (is_role z) true (none_means pair_key nums.roles spec.role (role_forms all) numbers.1.0 k z h)).0;
      statuses = λ p z h. (and_parts (is_status z) true (none_means text_key nums.statuses spec.status (status_forms all) numbers.1.1.0 p z h)).0;
      levels = λ k z h. (and_parts (is_level z) true (none_means triple_key nums.levels spec.level (level_forms all) numbers.1.1.1.0 k z h)).0;
      live = λ k v h. moments_hold k v.published (at_moment c k v h);
      spent = λ k v h. spent_range k (v.published, v.withdrawn) (at-read pair_key c.spent (λ _ v. (v.published, v.withdrawn)) k ∙ ap (option_map (λ (v : SpentVersion). (v.published, v.withdrawn))) h);
    }

    -- what is beside

    scope_there : (p o : Text) → IsSome (at (access_of c).statuses p) → scope_of p ≡ Some o → IsSome (at c.organisations o)
    scope_there p o h e =
        let status = value_of (at (access_of c).statuses p) h in
        let one = and_parts (is_name p) _ (packages_hold p status.0 status.1) in
        let two = and_parts (has_scope_of all (scope_of p)) _ one.1 in
        sym (has_at text_key c.organisations o) ∙ (sym (ap (has_scope_of all) e) ∙ two.0)

    owner_unscoped : (p u : Text) → IsSome (at c.owners (p, u)) → scope_of p ≡ None
    owner_unscoped p u h =
        let value = value_of (at c.owners (p, u)) h in
        no_scope (scope_of p) (and_parts (is_none (scope_of p)) true (none_means pair_key c.owners spec.maintainer (maintainer_forms all) names.1.1.1.1 (p, u) value.0 value.1)).0

    stated_there : (k : Pair) (release : LiveVersion) (number : ℤ) (a : Archive) (m : Data) → at c.versions k ≡ Some release → at c.held k ≡ Some number → at c.archives number ≡ Some a → read release.manifest ≡ Some m
        → has_integrity a.integrity m ≡ true
    stated_there k release number a m h held archive is_read =
        let one = and_parts (has is (entries (access_of c).statuses) k.0) _ (versions_hold k release h) in
        let two = and_parts (is_version k.1) _ one.1 in
        let three = and_parts (is_manifest_text k.0 k.1 release.manifest) _ two.1 in
        let four = and_parts (states_held (held_integrity all k) release.manifest) _ three.1 in
        let integrity : held_integrity all k ≡ Some a.integrity =
        integrity_at c k ∙ ap (option_and_then (λ (n : ℤ). option_map (λ (x : Archive). x.integrity) (at c.archives n))) held ∙ ap (option_map (λ (x : Archive). x.integrity)) archive in
        sym (ap (states_in a.integrity) is_read) ∙ (sym (ap (λ o. states_held o release.manifest) integrity) ∙ four.0)

    no_range : (p t : Text) → IsSome (at c.tags (p, t)) → ¬ (IsRangeText t)
    no_range p t h is =
        let value = value_of (at c.tags (p, t)) h in
        let one = and_parts (is_tag t) _ (tags_hold (p, t) value.0 value.1) in
        true≢false (sym (is_range_of t is) ∙ gone (is_range t) (and_parts (not (is_range t)) _ one.1).0)

    counter_holds : ((length c.counters == 0) ≡ true) × (is_count (count_of c.last_archive) ≡ true)
    counter_holds =
        let both = and_parts (length c.counters == 0) _ (unbroken (spec.counter all.counter) (counter_forms all all.counter) told.1) in
        (both.0, (and_parts (is_count (count_of c.last_archive)) true both.1).0)

    number_counted : (n : ℤ) (a : Archive) → at c.archives n ≡ Some a → is_counted (count_of c.last_archive) n ≡ true
    number_counted n a h = (and_parts (is_counted (count_of c.last_archive) n) true (none_means_seen number_key (λ (x : Archive). x.integrity) spec.number (number_forms all) c.archives numbered.1 n a h)).0

    counts_right : CountsArchives c
    counts_right = record {
      alone = nothing_there c.counters counter_holds.0;
      count = counter_holds.1;
      highest = λ n a h. within (count_of c.last_archive) refl counter_holds.1 n (number_counted n a h);
    }
      where
        within : (o : Option ℤ) → count_of c.last_archive ≡ o → is_count o ≡ true → (n : ℤ) → is_counted (count_of c.last_archive) n ≡ true → n ≤ℤ counted c.last_archive
        within None e is n h = absurd (true≢false (sym is))
        within (Some m) e is n h = subst (λ (z : ℤ). n ≤ℤ z) (sym (counted_whole c.last_archive m e)) (ordered n m (ap (λ o. is_counted o n) (sym e) ∙ h))

    none_unused : (k : Triple) → at c.needs k ≡ None
    none_unused k = each (at c.needs k) refl
      where
        each : (o : Option (Unit {0})) → at c.needs k ≡ o → at c.needs k ≡ None
        each None e = e
        each (Some v) e = absurd (true≢false (sym (and_parts false true (targets_hold k v e)).0))

    right_holds : HoldsRight c
    right_holds = record { premises = premises_hold; kept = all_kept; numbers = in_range; scopes = scope_there; unscoped = owner_unscoped; stated = stated_there; ranges = no_range; unused = none_unused; counts = counts_right }

  -- ---- where the registry is right

  module _ (right : HoldsRight c) where
    users_fine : user_form_problems all ≡ []
    users_fine = means_none text_key c.users spec.user (user_forms all) (λ u v h. and_from _ true (right.kept.spelled.users u (there _ v h)) refl)

    tokens_fine : token_form_problems all ≡ []
    tokens_fine = means_none text_key c.tokens spec.token (token_forms all) (λ d u h. and_from _ true (ap (λ (n : ℕ). n == 32) (right.kept.spelled.tokens d (there _ u h))) refl)

    organisations_fine : organisation_form_problems all ≡ []
    organisations_fine = means_none text_key c.organisations spec.organisation (organisation_forms all) (λ o v h. and_from _ true (right.kept.spelled.organisations o (there _ v h)) refl)

    teams_fine : team_form_problems all ≡ []
    teams_fine = means_none pair_key c.teams spec.team (team_forms all) (λ k v h. and_from _ true (right.kept.spelled.teams k.0 k.1 (there _ v h)) refl)

    scope_fine : (p : Text) → IsSome (at (access_of c).statuses p) → (o : Option Text) → scope_of p ≡ o → has_scope_of all o ≡ true
    scope_fine p h None e = refl
    scope_fine p h (Some o) e = has_at text_key c.organisations o ∙ right.scopes p o h e

    latest_fine : (p : Text) → has_live all p ≡ true → has pair_is (entries c.tags) (p, latest) ≡ true
    latest_fine p h =
        let it = any_at pair_key (λ (e : Pair × LiveVersion). is e.0.0 p) c.versions h in
        let lives : is_live (registry_of c) it.0.0 it.0.1 ≡ true = lives_as_row c it.0 ∙ there _ it.1.0 it.1.1 in
        let tagged : is_some (at c.tags (p, latest)) ≡ true = subst (λ (q : Text). is_some (at c.tags (q, latest)) ≡ true) (same_true text_key it.0.0 p it.1.2) (right.kept.latest it.0.0 it.0.1 lives) in
        has_at pair_key c.tags (p, latest) ∙ tagged

    packages_fine : package_form_problems all ≡ []
    packages_fine = means_none text_key (access_of c).statuses spec.package_of (package_forms all) (λ p v h.
        let some = there _ v h in
        and_from _ _ (is_name_of p (right.kept.spelled.statuses p some))
        (and_from _ _ (scope_fine p some (scope_of p) refl) (and_from _ true (where_live (has_live all p) (has pair_is (entries c.tags) (p, latest)) (latest_fine p)) refl)))

    maintainers_fine : maintainer_form_problems all ≡ []
    maintainers_fine = means_none pair_key c.owners spec.maintainer (maintainer_forms all) (λ k v h. and_from _ true (scope_none (scope_of k.0) (right.unscoped k.0 k.1 (there _ v h))) refl)

    roles_fine : role_problems all ≡ []
    roles_fine = means_none pair_key nums.roles spec.role (role_forms all) (λ k z h. and_from _ true (right.numbers.roles k z h) refl)

    statuses_fine : status_problems all ≡ []
    statuses_fine = means_none text_key nums.statuses spec.status (status_forms all) (λ p z h. and_from _ true (right.numbers.statuses p z h) refl)

    levels_fine : level_problems all ≡ []
    levels_fine = means_none triple_key nums.levels spec.level (level_forms all) (λ k z h. and_from _ true (right.numbers.levels k z h) refl)

    moments_fine : moment_problems all ≡ []
    moments_fine = means_none pair_key nums.moments spec.moment (moment_forms all) (λ k z h.
        let row = read_there pair_key c.versions (λ _ v. v.published) k z h in
        and_from _ true (subst (λ (n : ℤ). IsTrue (is_moment n)) row.2 (right.numbers.live k row.0 row.1)) refl)

    stated_fine : (k : Pair) (r : LiveVersion) → at c.versions k ≡ Some r → (o : Option ℤ) → at c.held k ≡ o
        → states_held (option_and_then (λ (n : ℤ). option_map (λ (a : Archive). a.integrity) (at c.archives n)) o) r.manifest ≡ true
    stated_fine k r h None e = refl
    stated_fine k r h (Some n) e = under (at c.archives n) refl
      where
        written : (a : Archive) → at c.archives n ≡ Some a → (m : Option Data) → read r.manifest ≡ m → states_in a.integrity m ≡ true
        written a i None j = refl
        written a i (Some m) j = right.stated k r n a m h e i j

        under : (o : Option Archive) → at c.archives n ≡ o → states_held (option_map (λ (a : Archive). a.integrity) o) r.manifest ≡ true
        under None i = refl
        under (Some a) i = written a i (read r.manifest) refl

    versions_fine : version_form_problems all ≡ []
    versions_fine = means_none pair_key c.versions spec.version (version_forms all) (λ k r h.
        let release = right.kept.live k.0 k.1 (with_bytes c k r) (row_live c k r h) in
        let lives : is_live (registry_of c) k.0 k.1 ≡ true = lives_as_row c k ∙ there _ r h in
        and_from _ _ (has_at text_key (access_of c).statuses k.0 ∙ right.kept.status k.0 k.1 lives)
        (and_from _ _ (is_version_of k.1 (release.version, release.is_version))
        (and_from _ _ (is_manifest_text_of k.0 k.1 release.version r.manifest release.is_version.0 release.manifest)
        (and_from _ _ (ap (λ o. states_held o r.manifest) (integrity_at c k) ∙ stated_fine k r h (at c.held k) refl) (and_from _ true release.message refl)))))

    spent_fine : spent_problems all ≡ []
    spent_fine = means_none pair_key nums.spent spec.withdrawn (spent_forms all) (λ k z h.
        let row = spent_there c k z h in
        let it = right.kept.spent k.0 k.1 (as_withdrawal row.0) (at-read pair_key c.spent (λ _ v. as_withdrawal v) k ∙ ap (option_map as_withdrawal) row.1) in
        let range = subst (λ (n : ℤ × ℤ). IsTrue (is_moment n.0) × IsTrue (is_moment n.1)) row.2 (right.numbers.spent k row.0 row.1) in
        and_from _ _ (has_at text_key (access_of c).statuses k.0 ∙ it.status)
        (and_from _ _ (is_version_of k.1 it.version)
        (and_from _ _ (ap not (has_at pair_key c.versions k ∙ sym (lives_as_row c k) ∙ it.gone)) (and_from _ true (and_from _ _ range.0 range.1) refl))))

    tags_fine : tag_problems all ≡ []
    tags_fine = means_none pair_key c.tags spec.tag (tag_forms all) (λ k v h.
        let it = right.kept.tags k.0 k.1 v h in
        and_from _ _ it.tag (and_from _ _ (no_true (is_range k.1) (λ is. right.ranges k.0 k.1 (there _ v h) (range_is k.1 is))) (and_from _ true (has_at pair_key c.versions (k.0, v) ∙ sym (lives_as_row c (k.0, v)) ∙ it.live) refl)))

    targets_fine : target_problems all ≡ []
    targets_fine = means_none triple_key c.needs spec.target (target_forms all) (λ k v h. absurd (no_value v (sym (right.unused k) ∙ h)))

    counted_fine : counted_problems all ≡ []
    counted_fine = means_none_seen number_key (λ (x : Archive). x.integrity) spec.number (number_forms all) c.archives (λ n a h. and_from _ true (below (count_of c.last_archive) refl n (right.counts.highest n a h)) refl)
      where
        below : (o : Option ℤ) → count_of c.last_archive ≡ o → (n : ℤ) → n ≤ℤ counted c.last_archive → is_counted o n ≡ true
        below None e n h = refl
        below (Some m) e n h = order_of n m (subst (λ (z : ℤ). n ≤ℤ z) (counted_whole c.last_archive m e) h)

    counter_fine : counter_problems all ≡ []
    counter_fine = broken_none (spec.counter all.counter) (counter_forms all all.counter) (and_from _ _ (ap (λ (rows : List Row). length rows == 0) right.counts.alone) (and_from _ true right.counts.count refl))

    premises_fine : premise_problems all c.archives ≡ []
    premises_fine = (none_means_premises c).1 right.premises

    names_fine : name_problems all c.archives ≡ []
    names_fine =
        five_nil (premise_problems all c.archives ++ user_form_problems all ++ token_form_problems all) (organisation_form_problems all) (team_form_problems all) (package_form_problems all) (maintainer_form_problems all)
        (nil_two (premise_problems all c.archives ++ user_form_problems all) (token_form_problems all) (nil_two (premise_problems all c.archives) (user_form_problems all) premises_fine users_fine) tokens_fine)
        organisations_fine teams_fine packages_fine maintainers_fine

    numbers_fine : number_problems all c.archives ≡ []
    numbers_fine = five_nil (name_problems all c.archives) (role_problems all) (status_problems all) (level_problems all) (moment_problems all) names_fine roles_fine statuses_fine levels_fine moments_fine

    releases_fine : release_problems all c.archives ≡ []
    releases_fine =
        five_nil (number_problems all c.archives) (version_form_problems all) (spent_problems all) (tag_problems all) (target_problems all) numbers_fine versions_fine spent_fine tags_fine targets_fine

    none_broken : problems all c.archives ≡ []
    none_broken = nil_two (release_problems all c.archives ++ counted_problems all) (counter_problems all) (nil_two (release_problems all c.archives) (counted_problems all) releases_fine counted_fine) counter_fine

-- ---- of texts and of rules

told_none : (ps qs : List Problem) → first_told ps qs ≡ [] → (ps ≡ []) × (qs ≡ [])
told_none [] qs h = (refl, h)
told_none (p ∷ ps) qs h = absurd cc

-- where a text isn't UTF-8, such rows are told
pub told_texts : (ps qs : List Problem) → (length ps == 0) ≡ false → ps ≡ first_told ps qs
told_texts [] qs h = absurd (true≢false h)
told_texts (p ∷ ps) qs h = refl

-- and else what breaks the other rules
pub told_rules : (ps qs : List Problem) → (length ps == 0) ≡ true → qs ≡ first_told ps qs
told_rules ps qs h = ap (λ (none : List Problem). first_told none qs) (sym (nothing_there ps h))

-- no row breaks a rule exactly where the registry is right
pub none_means_right : (db : Trees) → TellsRight (problems_at db) db
none_means_right db = (
  λ h. let both = told_none (text_problems db) (problems (rows_at db) (contents db).archives) h in record { texts = none_readable db both.0; holds = right_holds db both.1 },
  λ right. ap₂ first_told (readable_none db right.texts) (none_broken db right.holds),
)
