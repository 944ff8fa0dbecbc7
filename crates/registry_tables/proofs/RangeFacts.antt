-- The numbers that are stored stay in range, and tests of all rows tell whether they are.
use Rattle.registry_tables.proofs.Words.{◌≡◌, ◌≤◌, ◌∙◌, ℕ, ℤ, Bool, true, false, cond, ◌&&◌, List, [], ◌∷◌, map, pos, is_some, refl, sym, ap, subst, Ordering, Some, None, Option, option_map}
use Rattle.registry_tables.proofs.Words.{IsTrue, codes, if◌then◌else◌, AllByRecursion, list_all, and_from, and_parts, le-leb, list_all-map, Shown, Term, col, Row, column, IsKey, Pair, Triple}
use Rattle.registry_tables.proofs.Words.{MapBy, at, empty, entries, erase, keep, put, revise, Text, Status, pair_key, text_key, triple_key, at-empty, at-erase, at-keep, at-put, at-revise, Grant}
use Rattle.registry_tables.proofs.Words.{Role, Developer, Admin, Owner, Change, AddUser, AddToken, DropToken, AddOrg, PutMember, DropMember, AddTeam, PutTeamMember, DropTeamMember, DropTeam}
use Rattle.registry_tables.proofs.Words.{PutGrant, DropGrant, PutOwner, DropOwner, PutStatus, AddVersion, RetireVersion, PutDeprecation, PutTag, DropTag, text_in, MeansQuery, in_order}
use Rattle.registry_tables.proofs.Words.{select_where, select_all, all_stored, stored_by, Contents, LiveVersion, SpentVersion, fresh, grant_number, is_level, is_moment, is_role}
use Rattle.registry_tables.proofs.Words.{is_status, role_number, status_number, HasMoments, HasNumbersInRange, NumbersAreReadBack, TellsRanges, all_pass, schema, fourth_number, second_number}
use Rattle.registry_tables.proofs.Words.{third_number, test_has, test_from}
use Rattle.sqlite.specs.Listing.{understood}
use Rattle.sqlite_tied.specs.Compute.{everything}
use Rattle.registry_names.specs.Moments.{last_second}
use Rattle.registry_names.specs.declared.status.Status.TheVariants.{Public, Restricted}
use Rattle.registry_access.specs.declared.grant.Grant.TheVariants.{ReadOnly, ReadWrite}
use Rattle.registry_tables.specs.Schema as table
use Rattle.registry_tables.specs.Queries.{ShowsOnly}
use Rattle.registry_tables.proofs.FoundFacts.{at_entry, entry_at}
use Rattle.registry_tables.proofs.MappedFacts.{grants_mapped, members_mapped, packages_mapped, spent_mapped, versions_mapped}
use Rattle.registry_tables.proofs.NumberFacts.{grant_again, role_again, status_again}
use Rattle.registry_tables.proofs.StatusFacts.{list_columns, list_means, list_text}

-- ---- a number that is written

role_within : (role : Role) → IsTrue (is_role (role_number role))
role_within Developer = refl
role_within Admin = refl
role_within Owner = refl

status_within : (status : Status) → IsTrue (is_status (status_number status))
status_within Restricted = refl
status_within Public = refl

grant_within : (grant : Grant) → IsTrue (is_level (grant_number grant))
grant_within ReadOnly = refl
grant_within ReadWrite = refl

moment_within : (now : ℕ) → now ≤ last_second → IsTrue (is_moment (pos now))
moment_within now h = ap (λ (b : Bool). is_some (if b then Some now else None)) (le-leb now last_second h)

pub numbers_read_back : NumbersAreReadBack
numbers_read_back = record {
  roles = λ role. (role_again role, role_within role);
  statuses = λ status. (status_again status, status_within status);
  grants = λ grant. (grant_again grant, grant_within grant);
  moments = λ now h. (refl, moment_within now h);
}

-- ---- what holds of each value of a map

abbrev IsOfEach : {K X : Type 0} {cmp : K → K → Ordering} → (X → Type 0) → MapBy cmp X → Type 0
IsOfEach {K} {X} P m = (k : K) (x : X) → at m k ≡ Some x → P x

module _ {K X : Type 0} {cmp : K → K → Ordering} {same : K → K → Bool} (key : IsKey cmp same) (P : X → Type 0) where
  of_none : IsOfEach P (empty {K = K} {X = X} {cmp = cmp})
  of_none k x e = absurd (let none = sym (at-empty key k) ∙ e in cc)

  of_put : (m : MapBy cmp X) (q : K) (y : X) → P y → IsOfEach P m → IsOfEach P (put m q y)
  of_put m q y p each k x e = go (same q k) (sym (at-put key m q y k) ∙ e)
    where
      go : (b : Bool) → cond b (Some y) (at m k) ≡ Some x → P x
      go true i = let is : y ≡ x = cc in subst P is p
      go false i = each k x i

  of_erased : (m : MapBy cmp X) (q : K) → IsOfEach P m → IsOfEach P (erase m q)
  of_erased m q each k x e = go (same q k) (sym (at-erase key m q k) ∙ e)
    where
      go : (b : Bool) → cond b None (at m k) ≡ Some x → P x
      go true i = absurd cc
      go false i = each k x i

  of_kept : (m : MapBy cmp X) (test : K → Bool) → IsOfEach P m → IsOfEach P (keep m test)
  of_kept m test each k x e = go (test k) (sym (at-keep key m test k) ∙ e)
    where
      go : (b : Bool) → cond b (at m k) None ≡ Some x → P x
      go true i = each k x i
      go false i = absurd cc

  of_revised : (m : MapBy cmp X) (f : K → X → X) → ((k : K) (x : X) → P x → P (f k x)) → IsOfEach P m → IsOfEach P (revise m f)
  of_revised m f keeps each k x e = go (at m k) refl (sym (at-revise key m f k) ∙ e)
    where
      go : (o : Option X) → at m k ≡ o → option_map (f k) o ≡ Some x → P x
      go None i h = absurd cc
      go (Some y) i h = let is : f k y ≡ x = cc in subst P is (keeps k y (each k y i))

-- ---- changes

-- what leaves the five tables alone
pub others_in_range : (c d : Contents) → d.members ≡ c.members → d.packages ≡ c.packages → d.grants ≡ c.grants → d.versions ≡ c.versions → d.spent ≡ c.spent → HasNumbersInRange c → HasNumbersInRange d
others_in_range c d members packages grants versions spent h = record {
  roles = λ k n e. h.roles k n (sym (ap (λ m. at m k) members) ∙ e);
  statuses = λ p n e. h.statuses p n (sym (ap (λ m. at m p) packages) ∙ e);
  levels = λ k n e. h.levels k n (sym (ap (λ m. at m k) grants) ∙ e);
  live = λ k v e. h.live k v (sym (ap (λ m. at m k) versions) ∙ e);
  spent = λ k v e. h.spent k v (sym (ap (λ m. at m k) spent) ∙ e);
}

pub fresh_in_range : HasNumbersInRange fresh
fresh_in_range = record {
  roles = of_none pair_key (λ n. IsTrue (is_role n));
  statuses = of_none text_key (λ n. IsTrue (is_status n));
  levels = of_none triple_key (λ n. IsTrue (is_level n));
  live = of_none pair_key (λ (v : LiveVersion). IsTrue (is_moment v.published));
  spent = of_none pair_key (λ (v : SpentVersion). IsTrue (is_moment v.published) × IsTrue (is_moment v.withdrawn));
}

messaged : (p v message : Text) (k : Pair) (r : LiveVersion) (b : Bool) → IsTrue (is_moment r.published) → IsTrue (is_moment (if b then record r { message = message } else r).published)
messaged p v message k r true h = h
messaged p v message k r false h = h

pub change_in_range : (change : Change) (c : Contents) → HasMoments change → HasNumbersInRange c → HasNumbersInRange (stored_by change c)
change_in_range (AddUser u) c in_time h = others_in_range c _ refl refl refl refl refl h
change_in_range (AddToken digest u) c in_time h = others_in_range c _ refl refl refl refl refl h
change_in_range (DropToken digest) c in_time h = others_in_range c _ refl refl refl refl refl h
change_in_range (AddOrg o) c in_time h = others_in_range c _ refl refl refl refl refl h
change_in_range (PutMember o u role) c in_time h = record {
  roles = of_put pair_key (λ n. IsTrue (is_role n)) c.members (o, u) (role_number role) (role_within role) h.roles;
  statuses = h.statuses;
  levels = h.levels;
  live = h.live;
  spent = h.spent;
}
change_in_range (DropMember o u) c in_time h = record {
  roles = of_erased pair_key (λ n. IsTrue (is_role n)) c.members (o, u) h.roles;
  statuses = h.statuses;
  levels = h.levels;
  live = h.live;
  spent = h.spent;
}
change_in_range (AddTeam o t) c in_time h = others_in_range c _ refl refl refl refl refl h
change_in_range (PutTeamMember o t u) c in_time h = others_in_range c _ refl refl refl refl refl h
change_in_range (DropTeamMember o t u) c in_time h = others_in_range c _ refl refl refl refl refl h
change_in_range (DropTeam o t) c in_time h = record {
  roles = h.roles;
  statuses = h.statuses;
  levels = of_kept triple_key (λ n. IsTrue (is_level n)) c.grants _ h.levels;
  live = h.live;
  spent = h.spent;
}
change_in_range (PutGrant o t p grant) c in_time h = record {
  roles = h.roles;
  statuses = h.statuses;
  levels = of_put triple_key (λ n. IsTrue (is_level n)) c.grants (o, (t, p)) (grant_number grant) (grant_within grant) h.levels;
  live = h.live;
  spent = h.spent;
}
change_in_range (DropGrant o t p) c in_time h = record {
  roles = h.roles;
  statuses = h.statuses;
  levels = of_erased triple_key (λ n. IsTrue (is_level n)) c.grants (o, (t, p)) h.levels;
  live = h.live;
  spent = h.spent;
}
change_in_range (PutOwner p u) c in_time h = others_in_range c _ refl refl refl refl refl h
change_in_range (DropOwner p u) c in_time h = others_in_range c _ refl refl refl refl refl h
change_in_range (PutStatus p status) c in_time h = record {
  roles = h.roles;
  statuses = of_put text_key (λ n. IsTrue (is_status n)) c.packages p (status_number status) (status_within status) h.statuses;
  levels = h.levels;
  live = h.live;
  spent = h.spent;
}
change_in_range (AddVersion f now) c in_time h = record {
  roles = h.roles;
  statuses = h.statuses;
  levels = h.levels;
  live = of_put pair_key (λ (v : LiveVersion). IsTrue (is_moment v.published)) c.versions _ _ (moment_within now in_time) h.live;
  spent = h.spent;
}
change_in_range (RetireVersion p v published withdrawn) c in_time h = record {
  roles = h.roles;
  statuses = h.statuses;
  levels = h.levels;
  live = of_erased pair_key (λ (v : LiveVersion). IsTrue (is_moment v.published)) c.versions (p, v) h.live;
  spent = of_put pair_key (λ (v : SpentVersion). IsTrue (is_moment v.published) × IsTrue (is_moment v.withdrawn)) c.spent (p, v) _
      (moment_within published in_time.0, moment_within withdrawn in_time.1) h.spent;
}
change_in_range (PutDeprecation p v message) c in_time h = record {
  roles = h.roles;
  statuses = h.statuses;
  levels = h.levels;
  live = of_revised pair_key (λ (v : LiveVersion). IsTrue (is_moment v.published)) c.versions _ (λ k r. messaged p v message k r _) h.live;
  spent = h.spent;
}
change_in_range (PutTag p t v) c in_time h = others_in_range c _ refl refl refl refl refl h
change_in_range (DropTag p t) c in_time h = others_in_range c _ refl refl refl refl refl h

pub changes_in_range : (changes : List Change) (c : Contents) → AllByRecursion HasMoments changes → HasNumbersInRange c → HasNumbersInRange (all_stored changes c)
changes_in_range [] c in_time h = h
changes_in_range (change ∷ changes) c in_time h = changes_in_range changes (stored_by change c) in_time.1 (change_in_range change c in_time.0 h)

-- ---- all rows

module _ {K X : Type 0} {cmp : K → K → Ordering} {same : K → K → Bool} (key : IsKey cmp same) (test : X → Bool) (m : MapBy cmp X) where
  pass_each : all_pass test m ≡ true → IsOfEach (λ x. test x ≡ true) m
  pass_each all k x e = test_has (λ (e : K × X). test e.1) (entries m) (k, x) all (at_entry key m k x e)

  each_pass : IsOfEach (λ x. test x ≡ true) m → all_pass test m ≡ true
  each_pass each = test_from (λ (e : K × X). test e.1) (entries m) (λ e h. each e.0 e.1 (entry_at key m e.0 e.1 h))

-- all five tables pass exactly where the numbers are in range
pub tests_tell : (c : Contents) → TellsRanges (all_pass is_role c.members && (all_pass is_status c.packages && (all_pass is_level c.grants && (all_pass (λ v. is_moment v.published) c.versions
    && all_pass (λ v. is_moment v.published && is_moment v.withdrawn) c.spent)))) c
tests_tell c = (
  λ all.
      let one = and_parts _ _ all in
      let two = and_parts _ _ one.1 in
      let three = and_parts _ _ two.1 in
      let four = and_parts _ _ three.1 in
      record {
        roles = pass_each pair_key is_role c.members one.0;
        statuses = pass_each text_key is_status c.packages two.0;
        levels = pass_each triple_key is_level c.grants three.0;
        live = pass_each pair_key (λ (v : LiveVersion). is_moment v.published) c.versions four.0;
        spent = λ k v e. and_parts _ _ (pass_each pair_key (λ (v : SpentVersion). is_moment v.published && is_moment v.withdrawn) c.spent four.1 k v e);
      },
  λ h.
      and_from _ _ (each_pass pair_key is_role c.members h.roles)
      (and_from _ _ (each_pass text_key is_status c.packages h.statuses)
      (and_from _ _ (each_pass triple_key is_level c.grants h.levels)
      (and_from _ _ (each_pass pair_key (λ (v : LiveVersion). is_moment v.published) c.versions h.live)
      (each_pass pair_key (λ (v : SpentVersion). is_moment v.published && is_moment v.withdrawn) c.spent (λ k v e. and_from _ _ (h.spent k v e).0 (h.spent k v e).1))))),
)

-- ---- SELECT of all rows

-- what rows show passes where the entries do that they show
pub rows_tested : {E F : Type 0} (test : F → Bool) (read : Row → F) (g : E → F) (rows : List Row) (es : List E) → map read rows ≡ map g es → list_all (λ r. test (read r)) rows ≡ list_all (λ e. test (g e)) es
rows_tested test read g rows es h = sym (list_all-map test read rows) ∙ ap (list_all test) h ∙ list_all-map test g es

abbrev pair_number : Row → Pair × ℤ
pair_number r = ((text_in (column r 0), text_in (column r 1)), third_number r)

abbrev roles_text : List ℕ
roles_text = codes "SELECT org, user, role FROM members ORDER BY org, user"

pub roles_means : MeansQuery schema roles_text (select_where table.members (col 1 1 ∷ col 1 2 ∷ col 1 3 ∷ []) [] (in_order 1 1) (codes "org" ∷ codes "user" ∷ codes "role" ∷ []))
unfolding understood everything
roles_means = ((refl, (refl, refl)), refl)

pub roles_tested : (old new : Shown) → ShowsOnly roles_text [] old new (λ r. is_role (third_number r)) (λ c. all_pass is_role c.members)
roles_tested old new rows form call clean =
    let it = select_all members_mapped roles_text (col 1 1 ∷ col 1 2 ∷ col 1 3 ∷ []) _ roles_means pair_number (λ (n : ℤ). n) (λ id vs. refl) old new rows form call clean in
    (it.0, rows_tested (λ (e : Pair × ℤ). is_role e.1) pair_number _ rows _ it.1)

abbrev text_number : Row → Text × ℤ
text_number r = (text_in (column r 0), second_number r)

pub statuses_tested : (old new : Shown) → ShowsOnly list_text [] old new (λ r. is_status (second_number r)) (λ c. all_pass is_status c.packages)
statuses_tested old new rows form call clean =
    let it = select_all packages_mapped list_text list_columns _ list_means text_number (λ (n : ℤ). n) (λ id vs. refl) old new rows form call clean in
    (it.0, rows_tested (λ (e : Text × ℤ). is_status e.1) text_number _ rows _ it.1)

abbrev pub levels_text : List ℕ
levels_text = codes "SELECT org, team, package, level FROM grants ORDER BY org, team, package"

abbrev pub levels_columns : List Term
levels_columns = col 1 1 ∷ col 1 2 ∷ col 1 3 ∷ col 1 4 ∷ []

pub levels_means : MeansQuery schema levels_text (select_where table.grants levels_columns [] (in_order 2 1) (codes "org" ∷ codes "team" ∷ codes "package" ∷ codes "level" ∷ []))
unfolding understood everything
levels_means = ((refl, (refl, refl)), refl)

-- the key of a grant, and its level
abbrev pub triple_number : Row → Triple × ℤ
triple_number r = ((text_in (column r 0), (text_in (column r 1), text_in (column r 2))), fourth_number r)

pub levels_tested : (old new : Shown) → ShowsOnly levels_text [] old new (λ r. is_level (fourth_number r)) (λ c. all_pass is_level c.grants)
levels_tested old new rows form call clean =
    let it = select_all grants_mapped levels_text levels_columns _ levels_means triple_number (λ (n : ℤ). n) (λ id vs. refl) old new rows form call clean in
    (it.0, rows_tested (λ (e : Triple × ℤ). is_level e.1) triple_number _ rows _ it.1)

abbrev live_text : List ℕ
live_text = codes "SELECT package, version, published FROM versions ORDER BY package, version"

pub live_means : MeansQuery schema live_text (select_where table.versions (col 1 1 ∷ col 1 2 ∷ col 1 3 ∷ []) [] (in_order 1 1) (codes "package" ∷ codes "version" ∷ codes "published" ∷ []))
unfolding understood everything
live_means = ((refl, (refl, refl)), refl)

pub live_tested : (old new : Shown) → ShowsOnly live_text [] old new (λ r. is_moment (third_number r)) (λ c. all_pass (λ v. is_moment v.published) c.versions)
live_tested old new rows form call clean =
    let it = select_all versions_mapped live_text (col 1 1 ∷ col 1 2 ∷ col 1 3 ∷ []) _ live_means pair_number (λ (v : LiveVersion). v.published) (λ id vs. refl) old new rows form call clean in
    (it.0, rows_tested (λ (e : Pair × ℤ). is_moment e.1) pair_number _ rows _ it.1)

abbrev spent_text : List ℕ
spent_text = codes "SELECT package, version, published, withdrawn FROM spent ORDER BY package, version"

pub spent_means : MeansQuery schema spent_text (select_where table.spent (col 1 1 ∷ col 1 2 ∷ col 1 3 ∷ col 1 4 ∷ []) [] (in_order 1 1) (codes "package" ∷ codes "version" ∷ codes "published" ∷ codes "withdrawn" ∷ []))
unfolding understood everything
spent_means = ((refl, (refl, refl)), refl)

abbrev pair_moments : Row → Pair × (ℤ × ℤ)
pair_moments r = ((text_in (column r 0), text_in (column r 1)), (third_number r, fourth_number r))

pub spent_tested : (old new : Shown)
    → ShowsOnly spent_text [] old new (λ r. is_moment (third_number r) && is_moment (fourth_number r)) (λ c. all_pass (λ v. is_moment v.published && is_moment v.withdrawn) c.spent)
spent_tested old new rows form call clean =
    let it = select_all spent_mapped spent_text _ _ spent_means pair_moments (λ (v : SpentVersion). (v.published, v.withdrawn)) (λ id vs. refl) old new rows form call clean in
    (it.0, rows_tested (λ (e : Pair × (ℤ × ℤ)). is_moment e.1.0 && is_moment e.1.1) pair_moments _ rows _ it.1)
