-- What SELECT by key, by a test of the key and the value, and in the order of the key, show of the
-- map that a table gives.
use Rattle.std.proofs.Common.{◌≡◌, inl, inr, ℕ, suc, List, [], ◌∷◌, map, filter, drop, Bool, true, false, cond, Option, None, Some, option_map, refl, sym, ap, ap₂, ◌∙◌, true≢false, Ordering, Less, Equal, Greater, is_lt, is_eq}
use Rattle.std.specs.Cmp.{tied_itself}
use Rattle.std.specs.FinMap.Entries.{below_all}
use Rattle.std.proofs.lemmas.Bool.{and_parts, and_from}
use Rattle.sqlite.specs.declared.types.Value.{Value}
use Rattle.sqlite_value.specs.Order.{Row}
use Rattle.sqlite_trees.specs.Tree.{Trees}
use Rattle.sqlite_sql.specs.Term.{Term}
use Rattle.sqlite_sql.specs.Query.{key_cmp}
use Rattle.sqlite_schema.specs.declared.schema.Schema.{Schema}
use Rattle.sqlite_schema.specs.declared.schema.Table.{Table}
use Rattle.sqlite_rules.specs.Lists.{Has}
use Rattle.sqlite_rules.proofs.ListLemmas.{all_has, has_filtered, has_kept}
use Rattle.sqlite.specs.State.{State}
use Rattle.registry_names.specs.Texts.{Text, text_cmp, is}
use Rattle.registry_names.specs.Keys.{IsKey}
use Rattle.registry_names.specs.Maps.{MapBy, at, entries, first_at, rises, seen}
use Rattle.registry_names.proofs.TextFacts.{is_true, is_self}
use Rattle.registry_names.proofs.KeyFacts.{text_key, same_true, same_self}
use Rattle.registry_names.proofs.MapFacts.{at-entries}
use Rattle.registry_names.proofs.EntryFacts.{entries_rise}
use Rattle.registry_rows.specs.TextKeys.{Texts, TextsMap, texts_cmp, texts_are, texts_from}
use Rattle.registry_rows.specs.KeyKinds.{KeyKind, texts, map_by}
use Rattle.registry_rows.specs.Rows.{map_of, key_of, listed}
use Rattle.registry_rows.specs.Statements.{Selects, in_order, is_wanted, shown_by}
use Rattle.registry_rows.specs.Ready.{IsReady, IsMapped}
use Rattle.registry_rows.proofs.RowFacts.{at_row, row_at, never_some}
use Rattle.registry_rows.proofs.TextKeyFacts.{HasTexts, texts_key, row_parts, orders_keys, sort_row, sort_keys}
use Rattle.registry_rows.proofs.OrderFacts.{lists, found_has}
use Rattle.registry_rows.proofs.KeyedFacts.{Gives, by_texts_given}
use Rattle.registry_rows.proofs.StatementFacts.{tested_alone}

-- ---- entries that pass a test

differs : (o : Ordering) → is_lt o ≡ true → is_eq o ≡ false
differs Less h = refl
differs Equal h = absurd (true≢false (sym h))
differs Greater h = refl

module _ {K X : Type 0} {cmp : K → K → Ordering} {same : K → K → Bool} (key : IsKey cmp same) where
  below_passed : (q : K) (test : K × X → Bool) (es : List (K × X)) → below_all cmp q es ≡ true → below_all cmp q (filter test es) ≡ true
  below_passed q test [] h = refl
  below_passed q test (e ∷ es) h =
      let low = and_parts (is_lt (cmp q e.0)) (below_all cmp q es) h in
      elim (test e) as (λ b. below_all cmp q (cond b (e ∷ filter test es) (filter test es)) ≡ true) [ true ↦ and_from _ _ low.0 (below_passed q test es low.1) | false ↦ below_passed q test es low.1 ]

  pub rises_passed : (test : K × X → Bool) (es : List (K × X)) → rises cmp es ≡ true → rises cmp (filter test es) ≡ true
  rises_passed test [] h = refl
  rises_passed test (e ∷ es) h =
      let up = and_parts (below_all cmp e.0 es) (rises cmp es) h in
      elim (test e) as (λ b. rises cmp (cond b (e ∷ filter test es) (filter test es)) ≡ true) [ true ↦ and_from _ _ (below_passed e.0 test es up.0) (rises_passed test es up.1) | false ↦ rises_passed test es up.1 ]

  below_has : (q j : K) (y : X) (es : List (K × X)) → below_all cmp q es ≡ true → Has es (j, y) → is_lt (cmp q j) ≡ true
  below_has q j y [] low h = absurd h
  below_has q j y (e ∷ es) low (inl is) = ap (λ (d : K × X). is_lt (cmp q d.0)) is ∙ (and_parts (is_lt (cmp q e.0)) _ low).0
  below_has q j y (e ∷ es) low (inr later) = below_has q j y es (and_parts (is_lt (cmp q e.0)) _ low).1 later

  -- an entry is found by its key
  pub first_risen : (j : K) (y : X) (es : List (K × X)) → rises cmp es ≡ true → Has es (j, y) → first_at same es j ≡ Some y
  first_risen j y [] up h = absurd h
  first_risen j y (e ∷ es) up (inl is) = ap (λ (d : K × X). cond (same e.0 d.0) (Some e.1) (first_at same es d.0)) is ∙ ap (λ b. cond b (Some e.1) (first_at same es e.0)) (same_self key e.0) ∙ ap (λ (d : K × X). Some d.1) (sym is)
  first_risen j y (e ∷ es) up (inr later) =
      let both = and_parts (below_all cmp e.0 es) (rises cmp es) up in
      ap (λ b. cond b (Some e.1) (first_at same es j)) (key.test e.0 j ∙ differs (cmp e.0 j) (below_has e.0 j y es both.0 later)) ∙ first_risen j y es both.1 later

-- ---- of any kind of key

module _ {k : KeyKind} {C X : Type 0} {schema : Schema} {contents : Trees → C} {place : ℕ} {table : Table} {value : Row → X} {change : C → MapBy k.cmp X → C} (t : Gives k schema contents place table value change)
    (s : State) (ready : IsReady schema s) where
  abbrev rows_of : List Row
  rows_of = s.now.trees table.tree

  abbrev m : MapBy k.cmp X
  m = map_by k value rows_of

  -- what is shown of a row with its rowid
  pub shown_whole : {Z : Type 0} (F G : Row → Z) → ((id : Value) (vs : Row) → F (id ∷ vs) ≡ G (id ∷ vs)) → (r : Row) → Has rows_of r → F r ≡ G r
  shown_whole F G h r there = let parts = row_parts r (all_has _ rows_of r (t.keyed.rowids s ready).1 there) in ap F parts.1 ∙ h parts.0 (drop 1 r) ∙ ap G (sym parts.1)

  has_row : (q : k.Key) (x : X) → at m q ≡ Some x → (r : Row) × Has rows_of r × (k.of_row r ≡ q) × (value (drop 1 r) ≡ x)
  has_row = row_at k t.keyed.key value rows_of

  at_own : (r : Row) → Has rows_of r → at m (k.of_row r) ≡ Some (value (drop 1 r))
  at_own r h = at_row k t.keyed.key value rows_of r (t.keyed.once s ready) h

  -- ---- WHERE the key

  module _ {Y : Type 0} (q : k.Key) (project : List Term) (read : Row → Y) (g : X → Y)
      (shows : (id : Value) (vs : Row) → read (shown_by project (k.params q) (id ∷ vs)) ≡ g (value vs)) where
    passes : (r : Row) → Has rows_of r → is_wanted k.wanted (k.params q) r ≡ k.same q (k.of_row r)
    passes = tested_alone t s ready q

    own_key : (r : Row) → Has rows_of r → is_wanted k.wanted (k.params q) r ≡ true → q ≡ k.of_row r
    own_key r h pass = same_true t.keyed.key q (k.of_row r) (sym (passes r h) ∙ pass)

    abbrev one_of : Option X → List (Text × X)
    one_of None = []
    one_of (Some x) = ([], x) ∷ []

    one_rises : (o : Option X) → rises text_cmp (one_of o) ≡ true
    one_rises None = refl
    one_rises (Some x) = refl

    one_found : (o : Option X) (j : Text) → first_at is (one_of o) j ≡ cond (is [] j) o None
    one_found None j = both_none (is [] j)
      where
        both_none : (b : Bool) → ◌≡◌ {A = Option X} None (cond b None None)
        both_none true = refl
        both_none false = refl
    one_found (Some x) j = refl

    one_listed : (o : Option X) → map (λ (e : Text × Y). e.1) (map (seen g) (one_of o)) ≡ listed (option_map g o)
    one_listed None = refl
    one_listed (Some x) = refl

    found_there : (j : Text) (b : Bool) (x : X) → is [] j ≡ b → cond b (at m q) None ≡ Some x
        → (r : Row) × Has rows_of r × (is_wanted k.wanted (k.params q) r ≡ true) × (◌≡◌ {A = Text} [] j) × (value (drop 1 r) ≡ x)
    found_there j true x on e = let r = has_row q x e in (r.0, r.1, passes r.0 r.1 ∙ ap (k.same q) r.2 ∙ same_self t.keyed.key q, is_true [] j on, r.3)
    found_there j false x on e = absurd (never_some e)

    values_only : (rows : List Row) → map (λ (e : Text × Y). e.1) (map (λ (r : Row). ([], read r)) rows) ≡ map read rows
    values_only [] = refl
    values_only (r ∷ rows) = ap (λ l. read r ∷ l) (values_only rows)

    pub found_by_key : (rows : List Row) → Selects k.wanted project [] (k.params q) rows_of rows → map read rows ≡ listed (option_map g (at m q))
    found_by_key rows it =
        sym (values_only rows)
        ∙ ap (map (λ (e : Text × Y). e.1)) (lists text_key rows_of k.wanted project [] (k.params q) (λ r. []) (λ r. value (drop 1 r)) g (λ r. ([], read r)) (t.keyed.rowids s ready).0
        (λ r h pass. ap (λ (y : Y). ([], y)) (shown_whole (λ z. read (shown_by project (k.params q) z)) (λ z. g (value (drop 1 z))) shows r h))
        (λ a b ha hb wa wb _. t.keyed.once s ready a b ha hb (sym (own_key a ha wa) ∙ own_key b hb wb))
        (λ a b ha hb wa wb. sym (tied_itself text_key.total []))
        (λ j. cond (is [] j) (at m q) None)
        (λ r h pass. ap (λ b. cond b (at m q) None) (is_self []) ∙ ap (at m) (own_key r h pass) ∙ at_own r h)
        (λ j x e. found_there j (is [] j) x refl e) rows it (one_of (at m q)) (one_rises (at m q)) (one_found (at m q)))
        ∙ one_listed (at m q)

  -- ---- WHERE a test of the key and the value, ORDER BY the key

  module _ {Y : Type 0} (wanted project : List Term) (params : Row) (test : k.Key × X → Bool) (passes : (r : Row) → Has rows_of r → is_wanted wanted params r ≡ test (k.of_row r, value (drop 1 r)))
      (read : Row → k.Key × Y) (g : X → Y) (shows : (id : Value) (vs : Row) → test (k.of_row (id ∷ vs), value vs) ≡ true → read (shown_by project params (id ∷ vs)) ≡ (k.of_row (id ∷ vs), g (value vs))) where
    abbrev passed : List (k.Key × X)
    passed = filter test (entries m)

    passed_rise : rises k.cmp passed ≡ true
    passed_rise = rises_passed t.keyed.key test (entries m) (entries_rise m)

    hits : (r : Row) → Has rows_of r → is_wanted wanted params r ≡ true → first_at k.same passed (k.of_row r) ≡ Some (value (drop 1 r))
    hits r h pass =
        let there = found_has t.keyed.key (k.of_row r) (value (drop 1 r)) (entries m) (sym (at-entries t.keyed.key m (k.of_row r)) ∙ at_own r h) in
        first_risen t.keyed.key (k.of_row r) (value (drop 1 r)) passed passed_rise (has_kept test (entries m) _ there (sym (passes r h) ∙ pass))

    stands : (j : k.Key) (x : X) → first_at k.same passed j ≡ Some x → (r : Row) × Has rows_of r × (is_wanted wanted params r ≡ true) × (k.of_row r ≡ j) × (value (drop 1 r) ≡ x)
    stands j x e =
        let there = has_filtered test (entries m) (j, x) (found_has t.keyed.key j x passed e) in
        let r = has_row j x (at-entries t.keyed.key m j ∙ first_risen t.keyed.key j x (entries m) (entries_rise m) there.0) in
        (r.0, r.1, passes r.0 r.1 ∙ ap test (ap₂ (λ (a : k.Key) (b : X). (a, b)) r.2 r.3) ∙ there.1, r.2, r.3)

    shown_entry : (r : Row) → Has rows_of r → is_wanted wanted params r ≡ true → read (shown_by project params r) ≡ (k.of_row r, g (value (drop 1 r)))
    shown_entry r h pass =
        let parts = row_parts r (all_has _ rows_of r (t.keyed.rowids s ready).1 h) in
        ap (λ (z : Row). read (shown_by project params z)) parts.1
        ∙ shows parts.0 (drop 1 r) (ap (λ (z : Row). test (k.of_row z, value (drop 1 z))) (sym parts.1) ∙ sym (passes r h) ∙ pass)
        ∙ ap (λ (z : Row). (k.of_row z, g (value (drop 1 z)))) (sym parts.1)

    pub listed_where : (rows : List Row) → Selects wanted project k.order params rows_of rows → map read rows ≡ map (seen g) passed
    listed_where rows it =
        lists t.keyed.key rows_of wanted project k.order params k.of_row (λ r. value (drop 1 r)) g read (t.keyed.rowids s ready).0 shown_entry
        (λ a b ha hb wa wb e. t.keyed.once s ready a b ha hb e)
        (λ a b ha hb wa wb. t.keyed.sorted s ready params a b ha hb)
        (first_at k.same passed) hits stands rows it passed passed_rise (λ j. refl)

-- ---- of texts: WHERE the first of them, ORDER BY the rest

module _ {C X : Type 0} {schema : Schema} {contents : Trees → C} {place : ℕ} {table : Table} {more : ℕ} {value : Row → X} {change : C → TextsMap more X → C} (t : IsMapped schema contents place table more value change)
    (s : State) (ready : IsReady schema s) where
  abbrev own_rows : List Row
  own_rows = s.now.trees table.tree

  abbrev own_map : TextsMap more X
  own_map = map_of more value own_rows

  module _ {Y : Type 0} (rest from : ℕ) (wanted project : List Term) (params : Row) (whole_key : Texts rest → Texts more) (read : Row → Texts rest × Y) (g : X → Y)
      (shows : (id : Value) (vs : Row) → read (shown_by project params (id ∷ vs)) ≡ (texts_from rest from vs, g (value vs))) (typed : (r : Row) → Has own_rows r → HasTexts rest from (drop 1 r))
      (back : (r : Row) → Has own_rows r → is_wanted wanted params r ≡ true → whole_key (texts_from rest from (drop 1 r)) ≡ key_of more r)
      (forth : (r : Row) (j : Texts rest) → Has own_rows r → key_of more r ≡ whole_key j → (is_wanted wanted params r ≡ true) × (texts_from rest from (drop 1 r) ≡ j)) where
    sorts : (a b : Row) → Has own_rows a → Has own_rows b → key_cmp 0 (sort_keys rest (suc from)) (sort_row rest (suc from) params a) (sort_row rest (suc from) params b) ≡ texts_cmp rest (texts_from rest from (drop 1 a)) (texts_from rest from (drop 1 b))
    sorts a b ha hb =
        let ids = (by_texts_given t).keyed.rowids s ready in
        let pa = row_parts a (all_has _ own_rows a ids.1 ha) in
        let pb = row_parts b (all_has _ own_rows b ids.1 hb) in
        ap₂ (λ (x y : Row). key_cmp 0 (sort_keys rest (suc from)) (sort_row rest (suc from) params x) (sort_row rest (suc from) params y)) pa.1 pb.1
        ∙ orders_keys rest from params pa.0 pb.0 (drop 1 a) (drop 1 b) (typed a ha) (typed b hb)

    pub listed_in_order : (es : List (Texts rest × X)) → rises (texts_cmp rest) es ≡ true → ((j : Texts rest) → first_at (texts_are rest) es j ≡ at own_map (whole_key j))
        → (rows : List Row) → Selects wanted project (in_order rest (suc from)) params own_rows rows → map read rows ≡ map (seen g) es
    listed_in_order es rise looked rows it =
        let given = by_texts_given t in
        lists (texts_key rest) own_rows wanted project (in_order rest (suc from)) params (λ r. texts_from rest from (drop 1 r)) (λ r. value (drop 1 r)) g read (given.keyed.rowids s ready).0
        (λ r h pass. shown_whole given s ready (λ z. read (shown_by project params z)) (λ z. (texts_from rest from (drop 1 z), g (value (drop 1 z)))) shows r h)
        (λ a b ha hb wa wb e. given.keyed.once s ready a b ha hb (sym (back a ha wa) ∙ ap whole_key e ∙ back b hb wb))
        (λ a b ha hb wa wb. sorts a b ha hb)
        (λ j. at own_map (whole_key j))
        (λ r h pass. ap (at own_map) (back r h pass) ∙ at_row (texts more) given.keyed.key value own_rows r (given.keyed.once s ready) h)
        (λ j x e. let r = row_at (texts more) given.keyed.key value own_rows (whole_key j) x e in let both = forth r.0 j r.1 r.2 in (r.0, r.1, both.0, both.1, r.3))
        rows it es rise looked
