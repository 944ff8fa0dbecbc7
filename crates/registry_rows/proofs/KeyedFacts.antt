-- What each kind of key comes to in SQL, on tables that are ready.
use Rattle.std.proofs.Common.{◌≡◌, ◌+◌, ◌==◌, arith, inl, inr, ℕ, zero, suc, ℤ, List, [], ◌∷◌, ◌++◌, map, drop, slice_get, true, false, Some, refl, sym, ap, ap₂, subst, subst₂, ◌∙◌, true≢false}
use Rattle.std.specs.Ordering.{int_cmp, int_eq}
use Rattle.std.proofs.lemmas.Bool.{cases_Bool, and_from, eqb-true, false_from_ne_true}
use Rattle.std.proofs.lemmas.Cmp.{int_cmp_total, tied_itself}
use Rattle.std.proofs.lemmas.List.{get_or-drop, drop-drop}
use Rattle.std.proofs.lemmas.Map.Lookups.{exact_signed}
use Rattle.sqlite.specs.declared.types.Value.{Value}
use Rattle.sqlite.specs.declared.types.Value.TheVariants.{Null, Int, Real, Text, Blob}
use Rattle.sqlite_value.specs.Order.{Row, column, value_cmp}
use Rattle.sqlite_value.specs.declared.keys.Collation.TheVariants.{Binary}
use Rattle.sqlite_value.specs.Keys.{plain, first_key}
use Rattle.sqlite_value.proofs.OrderLemmas.{value_cmp-Int, value_cmp-Blob, value_cmp_total}
use Rattle.sqlite_trees.specs.Tree.{Trees, rowid}
use Rattle.sqlite_trees.specs.View.{is_int}
use Rattle.sqlite_sql.specs.declared.ops.BinaryOp.TheVariants.{Compare}
use Rattle.sqlite_sql.specs.declared.ops.CompareOp.TheVariants.{Eq}
use Rattle.sqlite_sql.specs.Ops.{binary, is_true}
use Rattle.sqlite_sql.specs.Query.{key_cmp}
use Rattle.sqlite_schema.specs.declared.schema.Kind.{Kind}
use Rattle.sqlite_schema.specs.declared.schema.Kind.TheVariants as kind
use Rattle.sqlite_schema.specs.declared.schema.Column.{Column}
use Rattle.sqlite_schema.specs.declared.schema.Schema.{Schema}
use Rattle.sqlite_schema.specs.declared.schema.Table.{Table}
use Rattle.sqlite_schema.specs.Rules.{agree}
use Rattle.sqlite_rules.specs.Lists.{Has}
use Rattle.sqlite_rules.proofs.PlaceLemmas.{tied_same}
use Rattle.sqlite_rules.proofs.ListLemmas.{all_has, all_from, has_got}
use Rattle.sqlite.specs.State.{State}
use Rattle.registry_names.specs.Texts.{is}
use Rattle.registry_names.specs.Keys.{IsKey}
use Rattle.registry_names.specs.Maps.{MapBy}
use Rattle.registry_names.proofs.KeyFacts.{text_key, same_true, same_self}
use Rattle.registry_rows.specs.Columns.{id_column, id_name, blob_in, int_in, is_bytes, begin_with_bytes, equals, takes, IsOf, AreOf}
use Rattle.registry_rows.specs.TextKeys.{TextsMap}
use Rattle.registry_rows.specs.KeyKinds.{KeyKind, texts, bytes, numbers, map_by, OneEach, BytesMap, NumberMap}
use Rattle.registry_rows.specs.Rows.{HasRowids}
use Rattle.registry_rows.specs.Statements.{KeepsOthers, by_texts, is_wanted, shown_by}
use Rattle.registry_rows.specs.Ready.{IsReady, DependsOn, with_rows, IsMapped, IsMappedByBytes, IsNumbered}
use Rattle.registry_rows.proofs.TypeFacts.{bytes_test, bytes_same, number_test, column_is, typed_after_id}
use Rattle.registry_rows.proofs.TextKeyFacts.{HasTexts, texts_key, row_parts, has_texts, tests_key, keys_agree, orders_keys, and_true, then_equal}
use Rattle.registry_rows.proofs.OneRowFacts.{table_rowids, row_types, one_by_primary}

-- the rows of the table are distinguished, found and put in order by their keys
pub record IsKeyed (k : KeyKind) (schema : Schema) (table : Table) : Type 1 where
  pub key : IsKey k.cmp k.same
  pub rowids : (s : State) → IsReady schema s → HasRowids (s.now.trees table.tree)
  pub once : (s : State) → IsReady schema s → OneEach k (s.now.trees table.tree)
  pub tested : (s : State) → IsReady schema s → (q : k.Key) (rest r : Row) → Has (s.now.trees table.tree) r → is_wanted k.wanted (k.params q ++ rest) r ≡ k.same q (k.of_row r)
  pub sorted : (s : State) → IsReady schema s → (params a b : Row) → Has (s.now.trees table.tree) a → Has (s.now.trees table.tree) b
      → key_cmp 0 (map (λ o. o.1) k.order) (shown_by (map (λ o. o.0) k.order) params a) (shown_by (map (λ o. o.0) k.order) params b) ≡ k.cmp (k.of_row a) (k.of_row b)
  -- and SQL's = on a column is that of what it is read as
  pub equal : (s : State) → IsReady schema s → (r : Row) → Has (s.now.trees table.tree) r → (at : ℕ) (q : Value) → takes table.columns at q ≡ true
      → is_true (binary (Compare Eq Binary) (column (drop 1 r) at) q) ≡ equals q (column (drop 1 r) at)

-- and they give one map of the contents
pub record Gives (k : KeyKind) {C X : Type 0} (schema : Schema) (contents : Trees → C) (place : ℕ) (table : Table) (value : Row → X) (change : C → MapBy k.cmp X → C) : Type 1 where
  pub found : slice_get schema.tables place ≡ Some table
  pub keyed : IsKeyed k schema table
  pub depends : DependsOn schema contents
  pub alone : (db : Trees) (rows : List Row) → contents (with_rows db table.tree rows) ≡ change (contents db) (map_by k value rows)

-- the trees after a change of one of them
pub others_as : (schema : Schema) (tree : ℕ) (old new : Trees) → KeepsOthers schema tree old new → {C : Type 0} (contents : Trees → C) → DependsOn schema contents → contents new ≡ contents (with_rows old tree (new tree))
others_as schema tree old new others contents depends =
    depends (with_rows old tree (new tree)) new (all_from (λ (u : Table). new u.tree ≡ with_rows old tree (new tree) u.tree) schema.tables
    (λ u h. each u (all_has (λ (u : Table). (tree == u.tree) ≡ false → new u.tree ≡ old u.tree) schema.tables u others h)))
  where
    each : (u : Table) → ((tree == u.tree) ≡ false → new u.tree ≡ old u.tree) → new u.tree ≡ with_rows old tree (new tree) u.tree
    each u same = elim (cases_Bool (tree == u.tree)) [
      | inl here ↦ rw here (ap new (sym (eqb-true tree u.tree here)))
      | inr other ↦ rw other (same other)
    ]

-- contents after a change of one table alone
module _ {k : KeyKind} {C X : Type 0} {schema : Schema} {contents : Trees → C} {place : ℕ} {table : Table} {value : Row → X} {change : C → MapBy k.cmp X → C} (t : Gives k schema contents place table value change) where
  pub after : (old new : Trees) (m : MapBy k.cmp X) → KeepsOthers schema table.tree old new → map_by k value (new table.tree) ≡ m → contents new ≡ change (contents old) m
  after old new m others e = others_as schema table.tree old new others contents t.depends ∙ t.alone old (new table.tree) ∙ ap (change (contents old)) e

-- ---- texts

module _ {C X : Type 0} {schema : Schema} {contents : Trees → C} {place : ℕ} {table : Table} {more : ℕ} {value : Row → X} {change : C → TextsMap more X → C} (t : IsMapped schema contents place table more value change) where
  -- each column of a row has its type
  pub types_of : (s : State) → IsReady schema s → (r : Row) → Has (s.now.trees table.tree) r → AreOf table.columns (drop 1 r)
  types_of s ready = row_types schema s place table _ ready t.found t.shape t.plain

  pub texts_of : (s : State) → IsReady schema s → (r : Row) → Has (s.now.trees table.tree) r → HasTexts more 0 (drop 1 r)
  texts_of s ready r h = has_texts more table.columns (drop 1 r) t.texts (types_of s ready r h)

  texts_sorted : (s : State) → IsReady schema s → (params a b : Row) → Has (s.now.trees table.tree) a → Has (s.now.trees table.tree) b
      → key_cmp 0 (map (λ o. o.1) (texts more).order) (shown_by (map (λ o. o.0) (texts more).order) params a) (shown_by (map (λ o. o.0) (texts more).order) params b) ≡ (texts more).cmp ((texts more).of_row a) ((texts more).of_row b)
  texts_sorted s ready params a b ha hb =
      let ids = table_rowids schema s place table ready t.found in
      let pa = row_parts a (all_has _ (s.now.trees table.tree) a ids.1 ha) in
      let pb = row_parts b (all_has _ (s.now.trees table.tree) b ids.1 hb) in
      ap₂ (λ (x y : Row). key_cmp 0 (map (λ o. o.1) (texts more).order) (shown_by (map (λ o. o.0) (texts more).order) params x) (shown_by (map (λ o. o.0) (texts more).order) params y)) pa.1 pb.1
      ∙ orders_keys more 0 params pa.0 pb.0 (drop 1 a) (drop 1 b) (texts_of s ready a ha) (texts_of s ready b hb)

  pub by_its_texts : IsKeyed (texts more) schema table
  by_its_texts = record {
    key = texts_key more;
    rowids = λ s ready. table_rowids schema s place table ready t.found;
    once = λ s ready a b ha hb same. one_by_primary schema s place table _ ready t.found t.shape t.index t.indexed a b ha hb
        (λ x y. keys_agree more 0 x y (drop 1 a) (drop 1 b) (texts_of s ready a ha) (texts_of s ready b hb) same);
    tested = λ s ready q rest r h.
        let parts = row_parts r (all_has _ (s.now.trees table.tree) r (table_rowids schema s place table ready t.found).1 h) in
        ap (is_wanted (by_texts more 1 0) ((texts more).params q ++ rest)) parts.1 ∙ tests_key more q rest parts.0 (drop 1 r) (texts_of s ready r h);
    sorted = texts_sorted;
    equal = λ s ready r h at q. column_is table.columns (drop 1 r) at q (types_of s ready r h);
  }

  pub by_texts_given : Gives (texts more) schema contents place table value change
  by_texts_given = record { found = t.found; keyed = by_its_texts; depends = t.depends; alone = t.alone }

-- ---- bytes

has_bytes : (cs : List Column) (vs : Row) → begin_with_bytes cs ≡ true → AreOf cs vs → column vs 0 ≡ Blob (blob_in (column vs 0))
has_bytes [] vs b h = absurd (true≢false (sym b))
has_bytes (c ∷ cs) [] b h = absurd h
has_bytes (c ∷ cs) (v ∷ vs) b h = go c.kind b h.0
  where
    go : (k : Kind) → is_bytes k ≡ true → IsOf k v → v ≡ Blob (blob_in v)
    go kind.Blob b h = h.1 ∙ ap (λ (w : Value). Blob (blob_in w)) (sym h.1)
    go _ b h = absurd (true≢false (sym b))

bytes_agree : (x y : Value) (a b : Row) → column a 0 ≡ Blob (blob_in (column a 0)) → column b 0 ≡ Blob (blob_in (column b 0)) → blob_in (column a 0) ≡ blob_in (column b 0)
    → agree plain (1 ∷ []) (x ∷ a) (1 ∷ []) (y ∷ b) ≡ true
unfolding first_key
bytes_agree x y a b ha hb e = and_from _ _ (subst₂ (λ u v. is_true (binary (Compare Eq Binary) u v) ≡ true) (sym (ha ∙ ap Blob e)) (sym hb) (bytes_same (blob_in (column b 0)))) refl

module _ {C X : Type 0} {schema : Schema} {contents : Trees → C} {place : ℕ} {table : Table} {value : Row → X} {change : C → BytesMap X → C} (t : IsMappedByBytes schema contents place table value change) where
  bytes_of : (s : State) → IsReady schema s → (r : Row) → Has (s.now.trees table.tree) r → column (drop 1 r) 0 ≡ Blob (bytes.of_row r)
  bytes_of s ready r h = has_bytes table.columns (drop 1 r) t.begins (row_types schema s place table _ ready t.found t.shape t.plain r h)

  bytes_tested : (s : State) → IsReady schema s → (q : List ℕ) (rest r : Row) → Has (s.now.trees table.tree) r → is_wanted bytes.wanted (bytes.params q ++ rest) r ≡ is q (bytes.of_row r)
  bytes_tested s ready q rest r h =
      let parts = row_parts r (all_has _ (s.now.trees table.tree) r (table_rowids schema s place table ready t.found).1 h) in
      ap (is_wanted bytes.wanted (Blob q ∷ rest)) parts.1 ∙ and_true _
      ∙ subst (λ v. is_true (binary (Compare Eq Binary) v (Blob q)) ≡ is q (bytes.of_row r)) (sym (bytes_of s ready r h)) (bytes_test (bytes.of_row r) q)

  bytes_sorted : (s : State) → IsReady schema s → (params a b : Row) → Has (s.now.trees table.tree) a → Has (s.now.trees table.tree) b
      → key_cmp 0 (map (λ o. o.1) bytes.order) (shown_by (map (λ o. o.0) bytes.order) params a) (shown_by (map (λ o. o.0) bytes.order) params b) ≡ bytes.cmp (bytes.of_row a) (bytes.of_row b)
  bytes_sorted s ready params a b ha hb =
      let ids = table_rowids schema s place table ready t.found in
      let pa = row_parts a (all_has _ (s.now.trees table.tree) a ids.1 ha) in
      let pb = row_parts b (all_has _ (s.now.trees table.tree) b ids.1 hb) in
      then_equal _ ∙ ap₂ (λ (x y : Row). value_cmp (column x 1) (column y 1)) pa.1 pb.1
      ∙ subst₂ (λ v w. value_cmp v w ≡ bytes.cmp (bytes.of_row a) (bytes.of_row b)) (sym (bytes_of s ready a ha)) (sym (bytes_of s ready b hb)) (value_cmp-Blob (bytes.of_row a) (bytes.of_row b))

  pub by_bytes_given : Gives bytes schema contents place table value change
  by_bytes_given = record {
    found = t.found;
    keyed = record {
      key = text_key;
      rowids = λ s ready. table_rowids schema s place table ready t.found;
      once = λ s ready a b ha hb same. one_by_primary schema s place table _ ready t.found t.shape t.index t.indexed a b ha hb
          (λ x y. bytes_agree x y (drop 1 a) (drop 1 b) (bytes_of s ready a ha) (bytes_of s ready b hb) same);
      tested = bytes_tested;
      sorted = bytes_sorted;
      equal = λ s ready r h at q. column_is table.columns (drop 1 r) at q (row_types schema s place table _ ready t.found t.shape t.plain r h);
    };
    depends = t.depends;
    alone = t.alone;
  }

-- ---- whole numbers

pub number_key : IsKey int_cmp int_eq
number_key = record { total = int_cmp_total; exact = exact_signed; test = λ a b. refl }

-- a rowid is read as itself
pub number_is : (v : Value) → is_int v ≡ true → v ≡ Int (int_in v)
number_is Null h = absurd (true≢false (sym h))
number_is (Int n) h = refl
number_is (Real x) h = absurd (true≢false (sym h))
number_is (Text t) h = absurd (true≢false (sym h))
number_is (Blob b) h = absurd (true≢false (sym h))

module _ (table : List Row) (ids : HasRowids table) where
  number_of : (r : Row) → Has table r → rowid r ≡ Int (numbers.of_row r)
  number_of r h = number_is (rowid r) (all_has _ table r ids.1 h)

  pub numbers_once : OneEach numbers table
  numbers_once a b ha hb same = tied_same table a b ids.0 ha hb (ap (λ v. value_cmp (rowid a) v) (sym (number_of a ha ∙ ap Int same ∙ sym (number_of b hb))) ∙ tied_itself value_cmp_total (rowid a))

  numbers_tested : (q : ℤ) (rest r : Row) → Has table r → is_wanted numbers.wanted (numbers.params q ++ rest) r ≡ int_eq q (numbers.of_row r)
  numbers_tested q rest r h = and_true _ ∙ subst (λ v. is_true (binary (Compare Eq Binary) v (Int q)) ≡ int_eq q (numbers.of_row r)) (sym (number_of r h)) (number_test (numbers.of_row r) q)

  numbers_sorted : (params a b : Row) → Has table a → Has table b
      → key_cmp 0 (map (λ o. o.1) numbers.order) (shown_by (map (λ o. o.0) numbers.order) params a) (shown_by (map (λ o. o.0) numbers.order) params b) ≡ int_cmp (numbers.of_row a) (numbers.of_row b)
  numbers_sorted params a b ha hb =
      then_equal _ ∙ subst₂ (λ v w. value_cmp v w ≡ int_cmp (numbers.of_row a) (numbers.of_row b)) (sym (number_of a ha)) (sym (number_of b hb)) (value_cmp-Int (numbers.of_row a) (numbers.of_row b))

module _ (k : KeyKind) (key : IsKey k.cmp k.same) (table : List Row) (ids : HasRowids table) (once : OneEach k table) (r x : Row) (hr : Has table r) (hx : Has table x) where
  -- the rowid distinguishes the rows that the key does
  told_alike : int_eq (numbers.of_row r) (numbers.of_row x) ≡ k.same (k.of_row r) (k.of_row x)
  told_alike = elim (cases_Bool (int_eq (numbers.of_row r) (numbers.of_row x))) [
    | inl same ↦ same ∙ sym (subst (λ z. k.same (k.of_row r) (k.of_row z) ≡ true) (numbers_once table ids r x hr hx (same_true number_key _ _ same)) (same_self key (k.of_row r)))
    | inr apart ↦ apart ∙ sym (false_from_ne_true _ (λ same. true≢false (sym (subst (λ z. int_eq (numbers.of_row r) (numbers.of_row z) ≡ true) (once r x hr hx (same_true key _ _ same)) (same_self number_key (numbers.of_row r))) ∙ apart)))
  ]

  -- WHERE the rowid is that of one row is the test of its key
  pub tested_by_rowid : (given : ℕ) (params : Row) → column params given ≡ rowid r → is_wanted (by_texts 0 0 given) params x ≡ k.same (k.of_row r) (k.of_row x)
  tested_by_rowid given params e = ap (λ v. is_wanted numbers.wanted (v ∷ []) x) (e ∙ number_of table ids r hr) ∙ numbers_tested table ids (numbers.of_row r) [] x hx ∙ told_alike

-- the columns after the id, as the row has them after its first
id_equal : (columns cs : List Column) (id : List ℕ) (r : Row) (at : ℕ) (q : Value) → columns ≡ id_column id ∷ cs → AreOf cs (drop 2 r) → takes columns at q ≡ true
    → is_true (binary (Compare Eq Binary) (column (drop 1 r) at) q) ≡ equals q (column (drop 1 r) at)
id_equal columns cs id r at q shape h t = go at (rw shape at t)
  where
    second : (j : ℕ) → column (drop 2 r) j ≡ column (drop 1 r) (suc j)
    second j = let next : 1 + j ≡ suc j = omega arith in ap (λ l. column l j) (sym (drop-drop 1 1 r)) ∙ get_or-drop 1 (drop 1 r) j Null ∙ ap (column (drop 1 r)) next

    go : (at : ℕ) → takes (id_column id ∷ cs) at q ≡ true → is_true (binary (Compare Eq Binary) (column (drop 1 r) at) q) ≡ equals q (column (drop 1 r) at)
    go zero t = absurd (true≢false (sym t))
    go (suc at) t = subst (λ v. is_true (binary (Compare Eq Binary) v q) ≡ equals q v) (second at) (column_is cs (drop 2 r) at q h t)

module _ {C X : Type 0} {schema : Schema} {contents : Trees → C} {place : ℕ} {table : Table} {value : Row → X} {change : C → NumberMap X → C} (t : IsNumbered schema contents place table value change) where
  ids : (s : State) → IsReady schema s → HasRowids (s.now.trees table.tree)
  ids s ready = table_rowids schema s place table ready t.found

  -- each column but the first has its type
  pub number_types : (s : State) → IsReady schema s → (r : Row) → Has (s.now.trees table.tree) r → AreOf (drop 1 table.columns) (drop 2 r)
  number_types s ready r h = typed_after_id schema s.now table r ready.sound ready.schema_is (has_got schema.tables place table t.found) h (id_column (id_name table.columns)) (drop 1 table.columns)
      (ap (λ (u : Table). u.key) t.shape) (ap (λ (u : Table). u.columns) t.shape) t.plain

  pub by_number_given : Gives numbers schema contents place table value change
  by_number_given = record {
    found = t.found;
    keyed = record {
      key = number_key;
      rowids = ids;
      once = λ s ready. numbers_once (s.now.trees table.tree) (ids s ready);
      tested = λ s ready. numbers_tested (s.now.trees table.tree) (ids s ready);
      sorted = λ s ready. numbers_sorted (s.now.trees table.tree) (ids s ready);
      equal = λ s ready r h at q. id_equal table.columns (drop 1 table.columns) (id_name table.columns) r at q (ap (λ (u : Table). u.columns) t.shape) (number_types s ready r h);
    };
    depends = t.depends;
    alone = t.alone;
  }
