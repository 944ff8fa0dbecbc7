-- SQL's = on texts, blobs and integers, and the types of the columns.
use Rattle.std.proofs.Common.{◌≡◌, ◌+◌, ◌≤◌, ℕ, zero, suc, ℤ, List, [], ◌∷◌, drop, get_or, Bool, true, false, cond, not, ◌&&◌, ◌||◌, Option, Some, None, refl, sym, ap, subst, ◌∙◌, true≢false, ne_eqb, arith}
use Rattle.std.specs.Ordering.{is_eq, int_eq}
use Rattle.std.proofs.lemmas.Cmp.{int_cmp_total, eq_by_cmp_equiv}
use Rattle.std.proofs.lemmas.Bool.{and_parts, not-true}
use Rattle.std.proofs.lemmas.List.{get_or-drop, drop-drop}
use Rattle.sqlite.specs.declared.types.Value.{Value}
use Rattle.sqlite.specs.declared.types.Value.TheVariants.{Null, Int, Text, Blob}
use Rattle.sqlite_value.specs.Order.{Row, column, value_cmp}
use Rattle.sqlite_value.specs.declared.keys.Collation.TheVariants.{Binary}
use Rattle.sqlite_value.proofs.OrderLemmas.{value_cmp-Int, value_cmp-Text, value_cmp-Blob}
use Rattle.sqlite_sql.specs.declared.ops.BinaryOp.TheVariants.{Compare}
use Rattle.sqlite_sql.specs.declared.ops.CompareOp.TheVariants.{Eq}
use Rattle.sqlite_sql.specs.Ops.{binary, is_true, is_null, from_truth}
use Rattle.sqlite_schema.specs.declared.schema.Kind.{Kind}
use Rattle.sqlite_schema.specs.declared.schema.Kind.TheVariants as kind
use Rattle.sqlite_schema.specs.declared.schema.Column.{Column}
use Rattle.sqlite_schema.specs.declared.schema.Schema.{Schema}
use Rattle.sqlite_schema.specs.declared.schema.Table.{Table}
use Rattle.sqlite_schema.specs.declared.schema.Constraint.TheVariants.{Datatype, NotNull}
use Rattle.sqlite_schema.specs.Names.{is_key}
use Rattle.sqlite_schema.specs.Rules.{suits, are_typed, are_present, is_of}
use Rattle.sqlite_rules.specs.Lists.{Has}
use Rattle.sqlite_rules.proofs.ListLemmas.{all_has}
use Rattle.sqlite.specs.Effect.{Database, IsDatabase}
use Rattle.registry_names.specs.Texts.{is}
use Rattle.registry_names.proofs.TextFacts.{is_tie, is_sym, is_self}
use Rattle.registry_rows.specs.Columns.{is_plain_kind, are_plain, is_exact, are_exact, equals, takes, IsOf, AreOf}

-- ---- SQL's =

truth_is : (b : Bool) → is_true (from_truth (Some b)) ≡ b
truth_is true = refl
truth_is false = refl

pub text_test : (s t : List ℕ) → is_true (binary (Compare Eq Binary) (Text s) (Text t)) ≡ is t s
unfolding binary
text_test s t = truth_is (is_eq (value_cmp (Text s) (Text t))) ∙ ap is_eq (value_cmp-Text s t) ∙ sym (is_tie s t) ∙ is_sym s t

pub bytes_test : (s t : List ℕ) → is_true (binary (Compare Eq Binary) (Blob s) (Blob t)) ≡ is t s
unfolding binary
bytes_test s t = truth_is (is_eq (value_cmp (Blob s) (Blob t))) ∙ ap is_eq (value_cmp-Blob s t) ∙ sym (is_tie s t) ∙ is_sym s t

pub number_test : (m n : ℤ) → is_true (binary (Compare Eq Binary) (Int m) (Int n)) ≡ int_eq n m
unfolding binary
number_test m n = truth_is (is_eq (value_cmp (Int m) (Int n))) ∙ ap is_eq (value_cmp-Int m n) ∙ (eq_by_cmp_equiv int_cmp_total).symm m n

pub text_same : (t : List ℕ) → is_true (binary (Compare Eq Binary) (Text t) (Text t)) ≡ true
text_same t = text_test t t ∙ is_self t

pub bytes_same : (t : List ℕ) → is_true (binary (Compare Eq Binary) (Blob t) (Blob t)) ≡ true
bytes_same t = bytes_test t t ∙ is_self t

-- a value of the column's type is tested by what it is read as
pub equals_is : (k : Kind) (v q : Value) → IsOf k v → is_exact k q ≡ true → is_true (binary (Compare Eq Binary) v q) ≡ equals q v
equals_is kind.Integer v (Int n) h e = subst (λ w. is_true (binary (Compare Eq Binary) w (Int n)) ≡ equals (Int n) w) (sym h.1) (number_test h.0 n)
equals_is kind.Text v (Text t) h e = subst (λ w. is_true (binary (Compare Eq Binary) w (Text t)) ≡ equals (Text t) w) (sym h.1) (text_test h.0 t)
equals_is kind.Blob v (Blob b) h e = subst (λ w. is_true (binary (Compare Eq Binary) w (Blob b)) ≡ equals (Blob b) w) (sym h.1) (bytes_test h.0 b)
equals_is _ v q h e = absurd (true≢false (sym e))

-- ---- the types of the columns

-- a column of the value's type is tested by what it is read as
pub column_is : (cs : List Column) (vs : Row) (at : ℕ) (q : Value) → AreOf cs vs → takes cs at q ≡ true → is_true (binary (Compare Eq Binary) (column vs at) q) ≡ equals q (column vs at)
column_is [] vs at q h t = absurd (true≢false (sym t))
column_is (c ∷ cs) [] at q h t = absurd h
column_is (c ∷ cs) (v ∷ vs) zero q h t = equals_is c.kind v q h.0 (and_parts _ _ t).1
column_is (c ∷ cs) (v ∷ vs) (suc at) q h t = column_is cs vs at q h.1 t

drop_more : (n : ℕ) (row : Row) (v : Value) (vs : Row) → drop n row ≡ v ∷ vs → (drop (n + 1) row ≡ vs) × (column row n ≡ v)
drop_more n row v vs e = (sym (drop-drop 1 n row) ∙ ap (drop 1) e, let z : n + 0 ≡ n = omega arith in subst (λ i. column row i ≡ v) z (sym (get_or-drop n row 0 Null) ∙ ap (λ l. get_or l 0 Null) e))

drop_none : (n : ℕ) (row : Row) → drop n row ≡ [] → column row n ≡ Null
drop_none n row e = let z : n + 0 ≡ n = omega arith in subst (λ i. column row i ≡ Null) z (sym (get_or-drop n row 0 Null) ∙ ap (λ l. get_or l 0 Null) e)

of_kind : (k : Kind) (v : Value) → is_plain_kind k ≡ true → is_of k v ≡ true → is_null v ≡ false → IsOf k v
of_kind kind.Integer (Int n) p t f = (n, refl)
of_kind kind.Text (Text s) p t f = (s, refl)
of_kind kind.Blob (Blob b) p t f = (b, refl)
of_kind _ _ p t f = absurd cc

exact_type : (k : Kind) (v : Value) → is_exact k v ≡ true → IsOf k v
exact_type kind.Integer (Int n) h = (n, refl)
exact_type kind.Text (Text t) h = (t, refl)
exact_type kind.Blob (Blob b) h = (b, refl)
exact_type _ _ h = absurd cc

-- a row that the columns store as it is has their types
pub exact_types : (cs : List Column) (vs : Row) → are_exact cs vs ≡ true → AreOf cs vs
exact_types [] [] h = tt
exact_types [] (v ∷ vs) h = absurd (true≢false (sym h))
exact_types (c ∷ cs) [] h = absurd (true≢false (sym h))
exact_types (c ∷ cs) (v ∷ vs) h = let both = and_parts _ _ h in (exact_type c.kind v both.0, exact_types cs vs both.1)

there_is : (c : Column) (v : Value) → c.not_null ≡ true → not c.not_null || not (is_null v) ≡ true → is_null v ≡ false
there_is c v must h = not-true _ (rw must at h)

there : (c : Column) (v : Value) → c.not_null ≡ true → not c.not_null || not (is_null v) ≡ true → is_null v ≡ true → ⊥
there c v must h null = true≢false (sym null ∙ there_is c v must h)

strict_is : (c : Column) (v : Value) → c.is_strict ≡ true → suits c v ≡ true → is_of c.kind v ≡ true
strict_is c v strict h = rw strict at h

or_after : (b x y : Bool) → b ≡ false → ((b || x) || y) ≡ true → (x || y) ≡ true
or_after true x y out h = absurd (true≢false out)
or_after false x y out h = h

else_of : (b x y : Bool) → b ≡ false → cond b x y ≡ true → y ≡ true
else_of true x y out h = absurd (true≢false out)
else_of false x y out h = h

-- the types of the columns from one on, where none of them is the rowid
typed_from : (key : Option ℕ) (cs : List Column) (at : ℕ) (row vs : Row) → ((j : ℕ) → at ≤ j → is_key key j ≡ false) → drop (at + 1) row ≡ vs → are_plain cs ≡ true
    → are_typed key at cs vs ≡ true → are_present key at cs row ≡ true → AreOf cs vs
typed_from key [] at row [] free e p t h = tt
typed_from key [] at row (v ∷ vs) free e p t h = absurd (true≢false (sym t))
typed_from key (c ∷ cs) at row [] free e p t h =
    let own = and_parts (c.is_strict && c.not_null) (is_plain_kind c.kind) (and_parts _ (are_plain cs) p).0 in
    let both = and_parts c.is_strict c.not_null own.0 in
    absurd (there c (column row (at + 1)) both.1 (or_after _ _ _ (free at (omega arith)) (and_parts _ _ h).0) (ap is_null (drop_none (at + 1) row e)))
typed_from key (c ∷ cs) at row (v ∷ vs) free e p t h =
    let own = and_parts (c.is_strict && c.not_null) (is_plain_kind c.kind) (and_parts _ (are_plain cs) p).0 in
    let both = and_parts c.is_strict c.not_null own.0 in
    let more = drop_more (at + 1) row v vs e in
    let some = there_is c (column row (at + 1)) both.1 (or_after _ _ _ (free at (omega arith)) (and_parts _ _ h).0) in (
      of_kind c.kind v own.1 (strict_is c v both.0 (else_of _ _ _ (free at (omega arith)) (and_parts _ _ t).0)) (subst (λ x. is_null x ≡ false) more.1 some),
      typed_from key cs (at + 1) row vs (λ j low. free j (omega arith)) more.0 (and_parts _ _ p).1 (and_parts _ _ t).1 (and_parts _ _ h).1,
    )

module _ (schema : Schema) (db : Database) (table : Table) (r : Row) (sound : IsDatabase db) (is : db.schema ≡ schema) (listed : Has schema.tables table) (h : Has (db.trees table.tree) r) where
  own_table : Has db.schema.tables table
  own_table = subst (λ s. Has s.tables table) (sym is) listed

  typed_row : are_typed table.key 0 table.columns (drop 1 r) ≡ true
  typed_row = (and_parts _ _ (all_has _ (db.trees table.tree) r (all_has _ db.schema.tables table (sound.obeys.rules Datatype) own_table) h)).0

  present_row : are_present table.key 0 table.columns r ≡ true
  present_row = all_has _ (db.trees table.tree) r (all_has _ db.schema.tables table (sound.obeys.rules NotNull) own_table) h

  -- what the schema says of the rows of a table
  pub typed : table.key ≡ None → are_plain table.columns ≡ true → AreOf table.columns (drop 1 r)
  typed key plain = typed_from None table.columns 0 r (drop 1 r) (λ j low. refl) refl plain (rw key at typed_row) (rw key at present_row)

  -- the same, where the first column is the rowid
  pub typed_after_id : (id : Column) (cs : List Column) → table.key ≡ Some 0 → table.columns ≡ id ∷ cs → are_plain cs ≡ true → AreOf cs (drop 2 r)
  typed_after_id id cs key columns plain =
      let there : are_present (Some 0) 0 (id ∷ cs) r ≡ true = rw (key, columns) at present_row in
      go (drop 1 r) refl (rw (key, columns) at typed_row) there
    where
      free : (j : ℕ) → 1 ≤ j → is_key (Some 0) j ≡ false
      free j low = ne_eqb 0 j (omega arith)

      go : (vs : Row) → drop 1 r ≡ vs → are_typed (Some 0) 0 (id ∷ cs) vs ≡ true → are_present (Some 0) 1 cs r ≡ true → AreOf cs (drop 2 r)
      go [] e t p = let none : drop 2 r ≡ [] = sym (drop-drop 1 1 r) ∙ ap (drop 1) e in subst (AreOf cs) (sym none) (typed_from (Some 0) cs 1 r [] free none plain (and_parts _ _ t).1 p)
      go (v ∷ vs) e t p = let rest : drop 2 r ≡ vs = sym (drop-drop 1 1 r) ∙ ap (drop 1) e in subst (AreOf cs) (sym rest) (typed_from (Some 0) cs 1 r vs free rest plain (and_parts _ _ t).1 p)
