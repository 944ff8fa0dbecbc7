-- Which rows the rows of `held` and of `tags` refer to.
use Rattle.registry_tables.proofs.Words.{◌≡◌, ℤ, [], ◌∷◌, drop, inl, inr, true, false, Some, is_some, refl, sym, ap, ap₂, subst, ◌∙◌, codes, and_parts, Value, Int, Stored, State, Row, column}
use Rattle.registry_tables.proofs.Words.{Binary, plain, rowid, Compare, Eq, binary, is_true, NoAction, Cascade, agree, has_null, parent_key, Has, all_has, has_got, Pair, Text, at, text_key}
use Rattle.registry_tables.proofs.Words.{same_true, text_in, int_in, AreOf, numbers, key_of, IsReady, reference, by_number_given, by_texts_given, number_is, number_key, texts_of, types_of}
use Rattle.registry_tables.proofs.Words.{table_rowids, parent_of, rows_tell_by, row_parts, HeldAreStored, archive_in, version_row, stored, schema, Contents}
use Rattle.sqlite_value.specs.Keys.{first_key}
use Rattle.sqlite_tied.specs.Compute.{everything}
use Rattle.registry_rows.proofs.TypeFacts.{number_test, text_test}
use Rattle.registry_tables.specs.Schema as table
use Rattle.registry_tables.proofs.MappedFacts.{archives_numbered, held_mapped, tags_mapped, versions_mapped}

-- the values of a row of `held`
abbrev HeldRow : Row → Type 0
HeldRow r = (id : Value) × (p : Text) × (v : Text) × (n : ℤ) × (r ≡ id ∷ Stored p ∷ Stored v ∷ Int n ∷ [])

held_values : (id : Value) (vs r : Row) → r ≡ id ∷ vs → AreOf table.held.columns vs → HeldRow r
held_values id [] r e h = absurd h
held_values id (a ∷ []) r e h = absurd h.1
held_values id (a ∷ b ∷ []) r e h = absurd h.1.1
held_values id (a ∷ b ∷ c ∷ []) r e h =
    (id, h.0.0, h.1.0.0, h.1.1.0.0, e ∙ ap (λ v. id ∷ v ∷ b ∷ c ∷ []) h.0.1 ∙ ap (λ v. id ∷ Stored h.0.0 ∷ v ∷ c ∷ []) h.1.0.1 ∙ ap (λ v. id ∷ Stored h.0.0 ∷ Stored h.1.0.0 ∷ v ∷ []) h.1.1.0.1)
held_values id (a ∷ b ∷ c ∷ d ∷ vs) r e h = absurd h.1.1.1

-- the values of a row of three texts, as those of `tags` and `team_members`
abbrev TextsRow : Row → Type 0
TextsRow r = (id : Value) × (p : Text) × (t : Text) × (v : Text) × (r ≡ id ∷ Stored p ∷ Stored t ∷ Stored v ∷ [])

pub three_texts : (id : Value) (vs r : Row) → r ≡ id ∷ vs → AreOf table.tags.columns vs → TextsRow r
three_texts id [] r e h = absurd h
three_texts id (a ∷ []) r e h = absurd h.1
three_texts id (a ∷ b ∷ []) r e h = absurd h.1.1
three_texts id (a ∷ b ∷ c ∷ []) r e h =
    (id, h.0.0, h.1.0.0, h.1.1.0.0, e ∙ ap (λ v. id ∷ v ∷ b ∷ c ∷ []) h.0.1 ∙ ap (λ v. id ∷ Stored h.0.0 ∷ v ∷ c ∷ []) h.1.0.1 ∙ ap (λ v. id ∷ Stored h.0.0 ∷ Stored h.1.0.0 ∷ v ∷ []) h.1.1.0.1)
three_texts id (a ∷ b ∷ c ∷ d ∷ vs) r e h = absurd h.1.1.1

-- SQL's = of texts
pub told : (t : Text) (x : Value) → x ≡ Stored (text_in x) → is_true (binary (Compare Eq Binary) x (Stored t)) ≡ true → t ≡ text_in x
told t x is h = same_true text_key t (text_in x) (sym (text_test (text_in x) t) ∙ subst (λ y. is_true (binary (Compare Eq Binary) y (Stored t)) ≡ true) is h)

to_archives : parent_key schema.tables (reference (3 ∷ []) (codes "archives") NoAction) ≡ Some (table.archives.tree, 0 ∷ [], plain)
unfolding everything
to_archives = refl

to_versions : parent_key schema.tables (reference (1 ∷ 2 ∷ []) (codes "versions") Cascade) ≡ Some (table.versions.tree, 1 ∷ 2 ∷ [], plain)
unfolding everything
to_versions = refl

to_tagged : parent_key schema.tables (reference (1 ∷ 3 ∷ []) (codes "versions") NoAction) ≡ Some (table.versions.tree, 1 ∷ 2 ∷ [], plain)
unfolding everything
to_tagged = refl

module _ (s : State) (ready : IsReady schema s) where
  held_row : (r : Row) → Has (s.now.trees table.held.tree) r → HeldRow r
  held_row r h =
      let parts = row_parts r (all_has _ (s.now.trees table.held.tree) r (table_rowids schema s 14 table.held ready refl).1 h) in
      held_values parts.0 (drop 1 r) r parts.1 (types_of held_mapped s ready r h)

  -- what the map has was read off a row
  row_for : (k : Pair) (n : ℤ) → at (stored s).held k ≡ Some n → (r : Row) × Has (s.now.trees table.held.tree) r × HeldRow r × (key_of 1 r ≡ k) × (int_in (column (drop 1 r) 2) ≡ n)
  row_for k n e =
      let it = (rows_tell_by (by_texts_given held_mapped) s ready k n).0 e in
      (it.0, it.1, held_row it.0 it.1, it.2, it.3)

  -- the row of its archive
  pub archive_there : (k : Pair) (n : ℤ) → at (stored s).held k ≡ Some n → is_some (at (stored s).archives n) ≡ true
  unfolding first_key
  archive_there k n e =
      let row = row_for k n e in
      let r = row.0 in
      let values = row.2 in
      let whole = values.4 in
      let m = values.3 in
      let parent = parent_of schema s ready table.held (has_got schema.tables 14 table.held refl) (reference (3 ∷ []) (codes "archives") NoAction) (inr (inl refl)) table.archives.tree (0 ∷ []) to_archives r row.1 (subst (λ x. has_null (3 ∷ []) x ≡ false) (sym whole) refl) in
      let p = parent.0 in
      let rowid_is : rowid p ≡ Int (numbers.of_row p) = number_is (rowid p) (all_has _ (s.now.trees table.archives.tree) p (table_rowids schema s 15 table.archives ready refl).1 parent.1) in
      let agrees : is_true (binary (Compare Eq Binary) (rowid p) (Int m)) ≡ true = (and_parts _ _ (subst (λ x. agree plain (0 ∷ []) p (3 ∷ []) x ≡ true) whole parent.2)).0 in
      let same : m ≡ numbers.of_row p = same_true number_key m (numbers.of_row p) (sym (number_test (numbers.of_row p) m) ∙ subst (λ v. is_true (binary (Compare Eq Binary) v (Int m)) ≡ true) rowid_is agrees) in
      let is : m ≡ n = sym (ap (λ (x : Row). int_in (column (drop 1 x) 2)) whole) ∙ row.4 in
      let there = (rows_tell_by (by_number_given archives_numbered) s ready (numbers.of_row p) (archive_in (drop 1 p))).1 (p, parent.1, refl, refl) in
      ap (λ (i : ℤ). is_some (at (stored s).archives i)) (sym is ∙ same) ∙ ap is_some there

  -- a row of `versions` is a version
  version_in : (p : Row) → Has (s.now.trees table.versions.tree) p → (v w : Text) → is_true (binary (Compare Eq Binary) (column (drop 1 p) 0) (Stored v)) ≡ true
      → is_true (binary (Compare Eq Binary) (column (drop 1 p) 1) (Stored w)) ≡ true → is_some (at (stored s).versions (v, w)) ≡ true
  version_in p here v w first second =
      let texts = texts_of versions_mapped s ready p here in
      let key : (v, w) ≡ key_of 1 p = ap₂ (λ (a b : Text). (a, b)) (told v (column (drop 1 p) 0) texts.0 first) (told w (column (drop 1 p) 1) texts.1 second) in
      let there = (rows_tell_by (by_texts_given versions_mapped) s ready (key_of 1 p) (version_row (drop 1 p))).1 (p, here, refl, refl) in
      ap (λ (q : Pair). is_some (at (stored s).versions q)) key ∙ ap is_some there

  -- a row of `versions` begins with its rowid
  version_parts : (p : Row) → Has (s.now.trees table.versions.tree) p → (id : Value) × (p ≡ id ∷ drop 1 p)
  version_parts p here = row_parts p (all_has _ (s.now.trees table.versions.tree) p (table_rowids schema s 9 table.versions ready refl).1 here)

  -- the row of its version
  pub version_there : (k : Pair) (n : ℤ) → at (stored s).held k ≡ Some n → is_some (at (stored s).versions k) ≡ true
  unfolding first_key
  version_there k n e =
      let row = row_for k n e in
      let r = row.0 in
      let values = row.2 in
      let whole = values.4 in
      let v = values.1 in
      let w = values.2 in
      let parent = parent_of schema s ready table.held (has_got schema.tables 14 table.held refl) (reference (1 ∷ 2 ∷ []) (codes "versions") Cascade) (inl refl) table.versions.tree (1 ∷ 2 ∷ []) to_versions r row.1 (subst (λ x. has_null (1 ∷ 2 ∷ []) x ≡ false) (sym whole) refl) in
      let p = parent.0 in
      let parts = version_parts p parent.1 in
      let agrees : agree plain (1 ∷ 2 ∷ []) (parts.0 ∷ drop 1 p) (1 ∷ 2 ∷ []) (values.0 ∷ Stored v ∷ Stored w ∷ Int values.3 ∷ []) ≡ true =
      subst (λ (x : Row). agree plain (1 ∷ 2 ∷ []) x (1 ∷ 2 ∷ []) (values.0 ∷ Stored v ∷ Stored w ∷ Int values.3 ∷ []) ≡ true) parts.1 (subst (λ (x : Row). agree plain (1 ∷ 2 ∷ []) p (1 ∷ 2 ∷ []) x ≡ true) whole parent.2) in
      let both = and_parts _ _ agrees in
      let is : (v, w) ≡ k = sym (ap (key_of 1) whole) ∙ row.3 in
      ap (λ (q : Pair). is_some (at (stored s).versions q)) (sym is) ∙ version_in p parent.1 v w both.0 (and_parts _ _ both.1).0

  -- the version that a tag names lives
  pub named_lives : (p t v : Text) → at (stored s).tags (p, t) ≡ Some v → is_some (at (stored s).versions (p, v)) ≡ true
  unfolding first_key
  named_lives p t v e =
      let row = (rows_tell_by (by_texts_given tags_mapped) s ready (p, t) v).0 e in
      let r = row.0 in
      let begins = row_parts r (all_has _ (s.now.trees table.tags.tree) r (table_rowids schema s 11 table.tags ready refl).1 row.1) in
      let values = three_texts begins.0 (drop 1 r) r begins.1 (types_of tags_mapped s ready r row.1) in
      let whole = values.4 in
      let a = values.1 in
      let b = values.3 in
      let parent = parent_of schema s ready table.tags (has_got schema.tables 11 table.tags refl) (reference (1 ∷ 3 ∷ []) (codes "versions") NoAction) (inl refl) table.versions.tree (1 ∷ 2 ∷ []) to_tagged r row.1 (subst (λ x. has_null (1 ∷ 3 ∷ []) x ≡ false) (sym whole) refl) in
      let q = parent.0 in
      let parts = version_parts q parent.1 in
      let agrees : agree plain (1 ∷ 2 ∷ []) (parts.0 ∷ drop 1 q) (1 ∷ 3 ∷ []) (values.0 ∷ Stored a ∷ Stored values.2 ∷ Stored b ∷ []) ≡ true =
      subst (λ (x : Row). agree plain (1 ∷ 2 ∷ []) x (1 ∷ 3 ∷ []) (values.0 ∷ Stored a ∷ Stored values.2 ∷ Stored b ∷ []) ≡ true) parts.1 (subst (λ (x : Row). agree plain (1 ∷ 2 ∷ []) q (1 ∷ 3 ∷ []) x ≡ true) whole parent.2) in
      let both = and_parts _ _ agrees in
      let whose : a ≡ p = sym (ap (λ (x : Row). (key_of 1 x).0) whole) ∙ ap (λ (k : Pair). k.0) row.2 in
      let version : b ≡ v = sym (ap (λ (x : Row). text_in (column (drop 1 x) 2)) whole) ∙ row.3 in
      ap₂ (λ (x y : Text). is_some (at (stored s).versions (x, y))) (sym whose) (sym version) ∙ version_in q parent.1 a b both.0 (and_parts _ _ both.1).0

  pub held_stored : HeldAreStored (stored s)
  held_stored = archive_there

-- a version that has an archive lives
abbrev pub HeldLive : Contents → Type 0
HeldLive c = (k : Pair) (n : ℤ) → at c.held k ≡ Some n → is_some (at c.versions k) ≡ true

pub held_live : (s : State) → IsReady schema s → HeldLive (stored s)
held_live s ready = version_there s ready
