-- What the statement on the needs of a package shows, and who needs its versions.
use Rattle.registry_tables.proofs.Words.{◌≡◌, ◌<◌, ◌+◌, ℕ, Bool, true, false, not, ◌&&◌, ◌||◌, true≢false, List, [], ◌∷◌, ◌++◌, append_assoc, length, take, drop, map, filter, Option, Some, None}
use Rattle.registry_tables.proofs.Words.{is_some, option_map, Ordering, Less, Equal, Greater, refl, sym, ap, ap₂, subst, ◌∙◌, codes, list_any, is_ne, option_and_then, slice_index_or, unwrap_or}
use Rattle.registry_tables.proofs.Words.{map-append, take-append-drop, take_more, list_any-append, and_from, and_parts, map-map, Value, Stored, Shown, Row, column, value_cmp, Binary}
use Rattle.registry_tables.proofs.Words.{value_cmp-Text, Compare, Eq, Ne, is_true, from_truth, Term, col, op2, Has, all_has, has_filtered, has_kept, Pair, Text, is, at, entries, IsVersionOf}
use Rattle.registry_tables.proofs.Words.{VersionParts, pair_key, is_self, is_sym, is_tie, text_is, needs_of, Need, binds, Release, is_depended, is_need_of, needs_in, versions_in, text_in, IsReady}
use Rattle.registry_tables.proofs.Words.{key_of, MeansQuery, select_where, is_wanted, Texts, by_texts_given, texts_of, has_mapped, map_has, and_true}
use Rattle.registry_tables.proofs.Words.{row_parts, texts_key, Contents, LiveVersion, live_of, registry_of, with_bytes, HoldsNeeds, is_needed, names_if_any, schema, text_spelled}
use Rattle.registry_tables.proofs.Words.{is_foreign_need, ranges_on, version_text, some_has, some_from, tag_spelled, TextsMap, map_of, nothing_in, by_texts, at_row, row_at, Selects, query_reads, HasCleanDisk, arith}
use Rattle.registry_tables.proofs.Words.{Finds as Selected, Ghosts, Transaction, Ok}
use Rattle.registry_rows.proofs.SelectFacts.{finds}
use Rattle.registry_rows.specs.KeyKinds.{texts}
use Rattle.registry_rows.specs.Statements.{shown_by}
use Rattle.registry_tables.specs.Dependents.{HaveSame, binds_one, dependents_on, is_need_on, ranges_of}
use Rattle.registry_tables.specs.Inside.{Knows}
use Rattle.registry_tables.specs.Queries.{HasShown, Shows}
use Rattle.registry_tables.proofs.InsideFacts.{Keeps}
use Rattle.std.proofs.Common.{is_eq}
use Rattle.std.proofs.lemmas.List.Filters.{dedup_is}
use Rattle.std.specs.List.{dedup, dedup_from}
use Rattle.std.specs.List.Retain.{IsFiltered, DiffersFromLast}
use Rattle.registry_ranges.proofs.RangeFacts.{list_any-map}
use Rattle.std.specs.Option.{option_to_list}
use Rattle.sqlite.specs.Listing.{understood}
use Rattle.sqlite_tied.specs.Compute.{everything}
use Rattle.sqlite_sql.specs.Ops.{binary}
use Rattle.registry_names.specs.Precedence.{version_in}
use Rattle.registry_names.proofs.PrecedenceFacts.{version_reads}
use Rattle.registry_rules.specs.declared.facts.LiveVersion.{LiveVersion as Listed}
use Rattle.registry_tables.specs.Schema as table
use Rattle.registry_tables.proofs.MappedFacts.{need_ranges_mapped}
use Rattle.registry_tables.proofs.ReadFacts.{at-read}
use Rattle.registry_tables.proofs.FoundFacts.{at_entry, entry_at, some_at}

-- ---- what is shown of needs that pass a test, in any order

one_truth : (a b : Bool) → (a ≡ true → b ≡ true) → (b ≡ true → a ≡ true) → a ≡ b
one_truth true b to from = sym (to refl)
one_truth false true to from = from refl
one_truth false false to from = refl

module _ {Z : Type 0} (wanted project : List Term) (params : Row) (test : Texts 3 → Bool) (read : Row → Z) (g : Texts 3 → Z) (s : Shown) (ready : IsReady schema s)
    (passes : (r : Row) → Has (s.now.trees table.need_ranges.tree) r → is_wanted wanted params r ≡ test (key_of 3 r))
    (shows : (id : Value) (vs : Row) → read (shown_by project params (id ∷ vs)) ≡ g (key_of 3 (id ∷ vs))) where
  abbrev need_rows : List Row
  need_rows = s.now.trees table.need_ranges.tree

  abbrev need_map : TextsMap 3 (Unit {0})
  need_map = map_of 3 nothing_in need_rows

  abbrev made_of : Texts 3 × Unit {0} → Z
  made_of e = g e.0

  abbrev tested : Texts 3 × Unit {0} → Bool
  tested e = test e.0

  abbrev made : List Z
  made = map made_of (filter tested (entries need_map))

  row_shows : (r : Row) → Has need_rows r → read (shown_by project params r) ≡ g (key_of 3 r)
  row_shows r h =
      let whole = row_parts r (all_has _ need_rows r ((by_texts_given need_ranges_mapped).keyed.rowids s ready).1 h) in
      ap (λ (z : Row). read (shown_by project params z)) whole.1 ∙ shows whole.0 (drop 1 r) ∙ ap (λ (z : Row). g (key_of 3 z)) (sym whole.1)

  shown_made : (f : Z → Bool) (rows : List Row) → Selected wanted project params need_rows rows → list_any f (map read rows) ≡ true → list_any f made ≡ true
  shown_made f rows it h =
      let z = some_has f (map read rows) h in
      let x = has_mapped read rows z.0 z.1 in
      let r = it.sound x.0 x.1 in
      let there = at_row (texts 3) (by_texts_given need_ranges_mapped).keyed.key nothing_in need_rows r.0 ((by_texts_given need_ranges_mapped).keyed.once s ready) r.1 in
      let kept = has_kept tested (entries need_map) (key_of 3 r.0, tt) (at_entry (texts_key 3) need_map (key_of 3 r.0) tt there) (sym (passes r.0 r.1) ∙ r.2) in
      some_from f made (g (key_of 3 r.0)) (map_has made_of (filter tested (entries need_map)) (key_of 3 r.0, tt) kept)
      (ap f (sym (x.2 ∙ ap read r.3 ∙ row_shows r.0 r.1)) ∙ z.2)

  made_shown : (f : Z → Bool) (rows : List Row) → Selected wanted project params need_rows rows → list_any f made ≡ true → list_any f (map read rows) ≡ true
  made_shown f rows it h =
      let z = some_has f made h in
      let e = has_mapped made_of (filter tested (entries need_map)) z.0 z.1 in
      let kept = has_filtered tested (entries need_map) e.0 e.1 in
      let r = row_at (texts 3) (by_texts_given need_ranges_mapped).keyed.key nothing_in need_rows e.0.0 e.0.1 (entry_at (texts_key 3) need_map e.0.0 e.0.1 kept.0) in
      let shown = it.complete r.0 r.1 (passes r.0 r.1 ∙ ap test r.2 ∙ kept.1) in
      some_from f (map read rows) (read (shown_by project params r.0)) (map_has read rows (shown_by project params r.0) shown)
      (ap f (row_shows r.0 r.1 ∙ ap g r.2 ∙ sym e.2) ∙ z.2)

  pub shows_same : (rows : List Row) → Selects wanted project [] params need_rows rows → HaveSame (map read rows) made
  shows_same rows it f =
      let found = finds wanted project [] params need_rows rows it in
      one_truth _ _ (shown_made f rows found) (made_shown f rows found)

-- what rows show has the same, told of what is stored
pub same_found : {Z : Type 0} {sql : List ℕ} {params : Row} {old new : Shown} {c : Contents} {rows : List Row} → HasShown sql params old new c rows → (read : Row → Z) (all : Contents → List Z)
    → Shows sql params old new (λ rs d. HaveSame (map read rs) (all d)) → HaveSame (map read rows) (all c)
same_found {rows = rows} it read all shows f = (shows rows it.form it.call it.clean).1 f ∙ ap (λ d. list_any f (all d)) it.holds

-- ---- SELECT by target, except a package's own needs

abbrev list_text : List ℕ
list_text = codes "SELECT package, version FROM need_ranges WHERE target = ?1 AND package <> ?1"

-- the target is the parameter, and the package isn't
abbrev list_wanted : List Term
list_wanted = op2 (Compare Eq Binary) (col 1 3) (col 0 0) ∷ op2 (Compare Ne Binary) (col 1 1) (col 0 0) ∷ []

pub list_means : MeansQuery schema list_text (select_where table.need_ranges (col 1 1 ∷ col 1 2 ∷ []) list_wanted [] (codes "package" ∷ codes "version" ∷ []))
unfolding understood everything
list_means = ((refl, (refl, refl)), refl)

pub truth_is : (b : Bool) → is_true (from_truth (Some b)) ≡ b
truth_is true = refl
truth_is false = refl

differs : (o : Ordering) → is_ne o ≡ not (is_eq o)
differs Less = refl
differs Equal = refl
differs Greater = refl

-- SQL's <> on texts
differ_test : (s t : Text) → is_true (binary (Compare Ne Binary) (Stored s) (Stored t)) ≡ not (is t s)
unfolding binary
differ_test s t =
    truth_is (is_ne (value_cmp (Stored s) (Stored t))) ∙ differs (value_cmp (Stored s) (Stored t))
    ∙ ap (λ o. not (is_eq o)) (value_cmp-Text s t) ∙ ap not (sym (is_tie s t) ∙ is_sym s t)

abbrev foreign : Text → Texts 3 × Unit {0} → Bool
foreign p e = is_foreign_need p e.0

passes : (p : Text) (s : Shown) → IsReady schema s → (r : Row) → Has (s.now.trees table.need_ranges.tree) r → is_wanted list_wanted (Stored p ∷ []) r ≡ is_foreign_need p (key_of 3 r)
passes p s ready r h =
    let keyed = (by_texts_given need_ranges_mapped).keyed in
    let whole = row_parts r (all_has _ (s.now.trees table.need_ranges.tree) r (keyed.rowids s ready).1 h) in
    let texts = texts_of need_ranges_mapped s ready r h in
    ap (is_wanted list_wanted (Stored p ∷ [])) whole.1
    ∙ ap₂ (λ a b. a && b) (keyed.equal s ready r h 2 (Stored p) refl)
    (and_true _ ∙ ap (λ (v : Value). is_true (binary (Compare Ne Binary) v (Stored p))) texts.0 ∙ differ_test (text_in (column (drop 1 r) 0)) p)

abbrev range_of : Texts 3 × Unit {0} → Text
range_of e = e.0.1.1.1

abbrev dependent_of : Texts 3 × Unit {0} → Pair
dependent_of e = (e.0.0, e.0.1.0)

pub dependents_shown : (p : Text) (old new : Shown) → Shows list_text (Stored p ∷ []) old new (λ rows c. HaveSame (map tag_spelled rows) (dependents_on c p))
dependents_shown p old new rows form call clean =
    let it = query_reads schema list_text table.need_ranges.tree list_wanted (col 1 1 ∷ col 1 2 ∷ []) [] _ list_means (Stored p ∷ []) old new rows (form (omega (arith, call.survives.clean, clean))) (call.shown clean) in
    (it.0, shows_same list_wanted (col 1 1 ∷ col 1 2 ∷ []) (Stored p ∷ []) (is_foreign_need p) tag_spelled (λ k. (k.0, k.1.0)) old it.1 (passes p old it.1) (λ id vs. refl) rows it.2)

-- ---- SELECT by package, version and target

abbrev range_text : List ℕ
range_text = codes "SELECT range FROM need_ranges WHERE package = ?1 AND version = ?2 AND target = ?3"

pub range_means : MeansQuery schema range_text (select_where table.need_ranges (col 1 4 ∷ []) (by_texts 2 1 0) [] (codes "range" ∷ []))
unfolding understood everything
range_means = ((refl, (refl, refl)), refl)

are_on : (p : Text) (q : Pair) (s : Shown) → IsReady schema s → (r : Row) → Has (s.now.trees table.need_ranges.tree) r → is_wanted (by_texts 2 1 0) (Stored q.0 ∷ Stored q.1 ∷ Stored p ∷ []) r ≡ is_need_on p q (key_of 3 r)
are_on p q s ready r h =
    let keyed = (by_texts_given need_ranges_mapped).keyed in
    let whole = row_parts r (all_has _ (s.now.trees table.need_ranges.tree) r (keyed.rowids s ready).1 h) in
    ap (is_wanted (by_texts 2 1 0) (Stored q.0 ∷ Stored q.1 ∷ Stored p ∷ [])) whole.1
    ∙ ap₂ (λ a b. a && b) (keyed.equal s ready r h 0 (Stored q.0) refl)
    (ap₂ (λ a b. a && b) (keyed.equal s ready r h 1 (Stored q.1) refl) (and_true _ ∙ keyed.equal s ready r h 2 (Stored p) refl))

pub ranges_shown : (p : Text) (q : Pair) (old new : Shown) → Shows range_text (Stored q.0 ∷ Stored q.1 ∷ Stored p ∷ []) old new (λ rows c. HaveSame (map text_spelled rows) (ranges_of c p q))
ranges_shown p q old new rows form call clean =
    let it = query_reads schema range_text table.need_ranges.tree (by_texts 2 1 0) (col 1 4 ∷ []) [] _ range_means (Stored q.0 ∷ Stored q.1 ∷ Stored p ∷ []) old new rows (form (omega (arith, call.survives.clean, clean))) (call.shown clean) in
    (it.0, shows_same (by_texts 2 1 0) (col 1 4 ∷ []) (Stored q.0 ∷ Stored q.1 ∷ Stored p ∷ []) (is_need_on p q) text_spelled (λ k. k.1.1.1) old it.1 (are_on p q old it.1) (λ id vs. refl) rows it.2)

-- ---- each of them once

module _ {D : Type 0} (same : D → D → Bool) (f : D → Bool) (alike : (x y : D) → same x y ≡ true → f x ≡ f y) where
  or_again : (a b r : Bool) → b ≡ a → (a || r) ≡ (a || (b || r))
  or_again true b r e = refl
  or_again false b r e = ap (λ z. z || r) (sym e)

  any_from : (k : D) (xs : List D) → list_any f (dedup_from same k xs) ≡ (f k || list_any f xs)
  any_from k [] = refl
  any_from k (x ∷ xs) = by (same x k) refl (any_from k xs) (any_from x xs)
    where
      by : (b : Bool) → same x k ≡ b → list_any f (dedup_from same k xs) ≡ (f k || list_any f xs) → list_any f (dedup_from same x xs) ≡ (f x || list_any f xs)
          → list_any f (dedup_from same k (x ∷ xs)) ≡ (f k || (f x || list_any f xs))
      by true e skipped kept = rw e (skipped ∙ or_again (f k) (f x) (list_any f xs) (alike x k e))
      by false e skipped kept = rw e (ap (λ b. f k || b) kept)

  any_once : (xs : List D) → list_any f (dedup same xs) ≡ list_any f xs
  any_once [] = refl
  any_once (x ∷ xs) = any_from x xs

-- leaving out those that are again there changes no test
pub once_each : {D X : Type 0} (entry : D → X) (same : D → D → Bool) → ((x y : D) → same x y ≡ true → entry x ≡ entry y) → (xs ys : List D) → IsFiltered (DiffersFromLast same) [] xs ys → HaveSame (map entry ys) (map entry xs)
once_each entry same alike xs ys kept test =
    list_any-map test entry ys ∙ ap (list_any (λ d. test (entry d))) (dedup_is same xs ys kept)
    ∙ any_once same (λ d. test (entry d)) (λ x y e. ap test (alike x y e)) xs ∙ sym (list_any-map test entry xs)

-- ---- version by version, and all at once

module _ (c : Contents) (p : Text) (f : Text → Bool) where
  abbrev of_one : Pair → Bool
  of_one q = list_any f (ranges_of c p q)

  on_one : Pair → Texts 3 × Unit {0} → Bool
  on_one q e = is_need_on p q e.0

  one_whole : list_any of_one (dependents_on c p) ≡ true → list_any f (ranges_on c p) ≡ true
  one_whole h =
      let q = some_has of_one (dependents_on c p) h in
      let d = has_mapped dependent_of (filter (foreign p) (entries c.need_ranges)) q.0 q.1 in
      let other = has_filtered (foreign p) (entries c.need_ranges) d.0 d.1 in
      let text = some_has f (ranges_of c p q.0) q.2 in
      let e = has_mapped range_of (filter (λ (e : Texts 3 × Unit {0}). is_need_on p q.0 e.0) (entries c.need_ranges)) text.0 text.1 in
      let kept = has_filtered (λ (e : Texts 3 × Unit {0}). is_need_on p q.0 e.0) (entries c.need_ranges) e.0 e.1 in
      let first = and_parts (is q.0.0 e.0.0.0) (is q.0.1 e.0.0.1.0 && is p e.0.0.1.1.0) kept.1 in
      let rest = and_parts (is q.0.1 e.0.0.1.0) (is p e.0.0.1.1.0) first.1 in
      let theirs : e.0.0.0 ≡ d.0.0.0 = sym (text_is q.0.0 e.0.0.0 first.0) ∙ ap (λ (k : Pair). k.0) d.2 in
      let apart = and_parts (is p d.0.0.1.1.0) (not (is p d.0.0.0)) other.1 in
      let here = has_kept (foreign p) (entries c.need_ranges) e.0 kept.0 (and_from _ _ rest.1 (ap (λ (a : Text). not (is p a)) theirs ∙ apart.1)) in
      some_from f (ranges_on c p) (range_of e.0) (map_has range_of (filter (foreign p) (entries c.need_ranges)) e.0 here) (ap f (sym e.2) ∙ text.2)

  whole_one : list_any f (ranges_on c p) ≡ true → list_any of_one (dependents_on c p) ≡ true
  whole_one h =
      let text = some_has f (ranges_on c p) h in
      let e = has_mapped range_of (filter (foreign p) (entries c.need_ranges)) text.0 text.1 in
      let kept = has_filtered (foreign p) (entries c.need_ranges) e.0 e.1 in
      let both = and_parts (is p e.0.0.1.1.0) (not (is p e.0.0.0)) kept.1 in
      let q : Pair = dependent_of e.0 in
      let own = has_kept (λ (e : Texts 3 × Unit {0}). is_need_on p q e.0) (entries c.need_ranges) e.0 kept.0 (and_from _ _ (is_self e.0.0.0) (and_from _ _ (is_self e.0.0.1.0) both.0)) in
      let ranged = some_from f (ranges_of c p q) (range_of e.0) (map_has range_of (filter (λ (e : Texts 3 × Unit {0}). is_need_on p q e.0) (entries c.need_ranges)) e.0 own) (ap f (sym e.2) ∙ text.2) in
      some_from of_one (dependents_on c p) q (map_has dependent_of (filter (foreign p) (entries c.need_ranges)) e.0 e.1) ranged

  pub one_by_one : list_any of_one (dependents_on c p) ≡ list_any f (ranges_on c p)
  one_by_one = one_truth _ _ one_whole whole_one

-- ---- who needs a version

-- what a version needs, by its row. One without a row needs nothing
abbrev needs_if : Option LiveVersion → List Need
needs_if o = unwrap_or (option_and_then (λ (r : LiveVersion). needs_of r.manifest) o) []

as_list : (target range : Text) (o : Option (List Need)) → names_if_any target range o ≡ list_any (λ need. is need.target target && is need.range range) (unwrap_or o [])
as_list target range None = refl
as_list target range (Some needs) = refl

has_row : (test : Need → Bool) (o : Option LiveVersion) → list_any test (needs_if o) ≡ true → (r : LiveVersion) × (o ≡ Some r)
has_row test None h = absurd (true≢false (sym h))
has_row test (Some r) h = (r, refl)

-- a live version needs what its row says
needs_as_row : (c : Contents) (k : Pair) (live : Release) → at (live_of c) k ≡ Some live → needs_in live ≡ needs_if (at c.versions k)
needs_as_row c k live e = each (at c.versions k) (sym (at-read pair_key c.versions (with_bytes c) k) ∙ e)
  where
    each : (o : Option LiveVersion) → option_map (with_bytes c k) o ≡ Some live → needs_in live ≡ needs_if o
    each None same = absurd cc
    each (Some r) same = let is : with_bytes c k r ≡ live = cc in ap needs_in (sym is)

module _ (c : Contents) (h : HoldsNeeds c) (p : Text) (v : VersionParts) where
  abbrev binding : Text → Bool
  binding text = binds text v

  abbrev depends : Pair × Release → Bool
  depends e = not (is e.0.0 p) && list_any (is_need_of p v) (needs_in e.1)

  -- a range that binds is that of a version that needs it
  range_needs : list_any binding (ranges_on c p) ≡ true → list_any depends (entries (live_of c)) ≡ true
  range_needs binds_one =
      let text = some_has binding (ranges_on c p) binds_one in
      let mapped = has_mapped range_of (filter (foreign p) (entries c.need_ranges)) text.0 text.1 in
      let e = mapped.0 in
      let kept = has_filtered (foreign p) (entries c.need_ranges) e mapped.1 in
      let both = and_parts (is p e.0.1.1.0) (not (is p e.0.0)) kept.1 in
      let k : Pair = (e.0.0, e.0.1.0) in
      let test : Need → Bool = λ need. is need.target e.0.1.1.0 && is need.range e.0.1.1.1 in
      let named : list_any test (needs_if (at c.versions k)) ≡ true =
      sym (as_list e.0.1.1.0 e.0.1.1.1 _) ∙ sym (h.stored e.0.0 e.0.1.0 e.0.1.1.0 e.0.1.1.1) ∙ ap is_some (entry_at (texts_key 3) c.need_ranges e.0 e.1 kept.0) in
      let need = some_has test (needs_if (at c.versions k)) named in
      let names = and_parts (is need.0.target e.0.1.1.0) (is need.0.range e.0.1.1.1) need.2 in
      let target : is need.0.target p ≡ true = ap (is need.0.target) (text_is p e.0.1.1.0 both.0) ∙ names.0 in
      let range : binds need.0.range v ≡ true = ap binding (text_is need.0.range e.0.1.1.1 names.1 ∙ sym mapped.2) ∙ text.2 in
      let row = has_row test (at c.versions k) named in
      let live = at-read pair_key c.versions (with_bytes c) k ∙ ap (option_map (with_bytes c k)) row.1 in
      let needed = subst (λ (needs : List Need). Has needs need.0) (ap needs_if row.1) need.1 in
      some_from depends (entries (live_of c)) (k, with_bytes c k row.0) (at_entry pair_key (live_of c) k (with_bytes c k row.0) live)
      (and_from _ _ (ap not (is_sym e.0.0 p) ∙ both.1) (some_from (is_need_of p v) (needs_in (with_bytes c k row.0)) need.0 needed (and_from _ _ target range)))

  -- and the other way round
  need_ranges : list_any depends (entries (live_of c)) ≡ true → list_any binding (ranges_on c p) ≡ true
  need_ranges needs_one =
      let e = some_has depends (entries (live_of c)) needs_one in
      let k : Pair = e.0.0 in
      let both = and_parts (not (is k.0 p)) (list_any (is_need_of p v) (needs_in e.0.1)) e.2 in
      let need = some_has (is_need_of p v) (needs_in e.0.1) both.1 in
      let names = and_parts (is need.0.target p) (binds need.0.range v) need.2 in
      let own = subst (λ (needs : List Need). Has needs need.0) (needs_as_row c k e.0.1 (entry_at pair_key (live_of c) k e.0.1 e.1)) need.1 in
      let needed : is_needed c.versions k.0 k.1 p need.0.range ≡ true = as_list p need.0.range _
      ∙ some_from (λ n. is n.target p && is n.range need.0.range) (needs_if (at c.versions k)) need.0 own (and_from _ _ names.0 (is_self need.0.range)) in
      let q : Texts 3 = (k.0, (k.1, (p, need.0.range))) in
      let there = some_at (at c.need_ranges q) (h.stored k.0 k.1 p need.0.range ∙ needed) in
      let kept = has_kept (foreign p) (entries c.need_ranges) (q, there.0) (at_entry (texts_key 3) c.need_ranges q there.0 there.1) (and_from _ _ (is_self p) (ap not (is_sym p k.0) ∙ both.0)) in
      some_from binding (ranges_on c p) need.0.range (map_has range_of (filter (foreign p) (entries c.need_ranges)) (q, there.0) kept) names.1

  pub ranges_tell : list_any binding (ranges_on c p) ≡ is_depended (registry_of c) p v
  ranges_tell = one_truth _ _ range_needs need_ranges

-- ---- one version after another

-- one of the versions is bound by one of the texts, and the other way round
pub binds_swapped : (vs : List VersionParts) (ts : List Text) → list_any (binds_one vs) ts ≡ list_any (λ v. list_any (λ text. binds text v) ts) vs
binds_swapped vs ts = one_truth _ _
    (λ h. let t = some_has (binds_one vs) ts h in let v = some_has (binds t.0) vs t.2 in some_from (λ v. list_any (λ text. binds text v) ts) vs v.0 v.1 (some_from (λ text. binds text v.0) ts t.0 t.1 v.2))
    (λ h. let v = some_has (λ v. list_any (λ text. binds text v) ts) vs h in let t = some_has (λ text. binds text v.0) ts v.2 in some_from (binds_one vs) ts t.0 t.1 (some_from (binds t.0) vs v.0 v.1 t.2))

versions_joined : (xs ys : List Text) → versions_in (xs ++ ys) ≡ versions_in xs ++ versions_in ys
versions_joined [] ys = refl
versions_joined (x ∷ xs) ys = ap (λ vs. option_to_list (version_in x) ++ vs) (versions_joined xs ys) ∙ sym (append_assoc (option_to_list (version_in x)) (versions_in xs) (versions_in ys))

-- one version more is read
pub one_more_read : (rows : List Listed) (i : ℕ) (d : Listed) (t : Text) (v : VersionParts) → i < length rows → t ≡ version_text (slice_index_or rows i d) → IsVersionOf t v
    → versions_in (map version_text (take (i + 1) rows)) ≡ versions_in (map version_text (take i rows)) ++ v ∷ []
one_more_read rows i d t v within e form =
    ap (λ (rs : List Listed). versions_in (map version_text rs)) (take_more rows i d within)
    ∙ ap versions_in (map-append version_text (take i rows) (slice_index_or rows i d ∷ []))
    ∙ versions_joined (map version_text (take i rows)) (version_text (slice_index_or rows i d) ∷ [])
    ∙ ap (λ (o : Option VersionParts). versions_in (map version_text (take i rows)) ++ (option_to_list o ++ [])) (version_reads (version_text (slice_index_or rows i d)) v (subst (λ (x : Text). IsVersionOf x v) e form))

-- ---- in a loop over those who need it

-- an answer that follows from what is so up to here
pub kept_answer : {S Q E : Type 0} (store : Ghosts S) (a b : Transaction S) (y : Q) {is_so : Contents → Type 0} {also : Q → Contents → Type 0} → Keeps store a b is_so → ((c : Contents) → is_so c → also y c) → Knows {E = E} store a b (Ok y) also
kept_answer store a b y it so = record { since = it.since; clean = it.clean; ran = it.ran; holds = it.holds; sees = it.sees; told = λ c h clean. so c (it.told c h clean) }

module _ {D : Type 0} (entry : D → Pair) (test : Pair → Bool) (ds : List D) where
  one_more : (i : ℕ) (d : D) → i < length ds → list_any test (map entry (take (i + 1) ds)) ≡ (list_any test (map entry (take i ds)) || test (entry (slice_index_or ds i d)))
  one_more i d within =
      ap (λ (xs : List D). list_any test (map entry xs)) (take_more ds i d within) ∙ ap (list_any test) (map-append entry (take i ds) (slice_index_or ds i d ∷ []))
      ∙ list_any-append test (map entry (take i ds)) (entry (slice_index_or ds i d) ∷ []) ∙ ap (λ b. list_any test (map entry (take i ds)) || b) (either (test (entry (slice_index_or ds i d))))
    where
      either : (b : Bool) → (b || false) ≡ b
      either true = refl
      either false = refl

  pub none_more : (i : ℕ) (d : D) → i < length ds → d ≡ slice_index_or ds i d → list_any test (map entry (take i ds)) ≡ false → test (entry d) ≡ false → list_any test (map entry (take (i + 1) ds)) ≡ false
  none_more i d within is none here = one_more i d within ∙ ap₂ (λ a b. a || b) none (ap (λ (x : D). test (entry x)) (sym is) ∙ here)

  pub some_here : (i : ℕ) (d : D) → i < length ds → d ≡ slice_index_or ds i d → test (entry d) ≡ true → list_any test (map entry ds) ≡ true
  some_here i d within is here =
      let first = one_more i d within ∙ ap (λ b. list_any test (map entry (take i ds)) || b) (ap (λ (x : D). test (entry x)) (sym is) ∙ here) ∙ or_true (list_any test (map entry (take i ds))) in
      ap (λ (xs : List D). list_any test (map entry xs)) (sym (take-append-drop (i + 1) ds)) ∙ ap (list_any test) (map-append entry (take (i + 1) ds) (drop (i + 1) ds))
      ∙ list_any-append test (map entry (take (i + 1) ds)) (map entry (drop (i + 1) ds)) ∙ ap (λ b. b || list_any test (map entry (drop (i + 1) ds))) first
    where
      or_true : (b : Bool) → (b || true) ≡ true
      or_true true = refl
      or_true false = refl
