-- A query for one row that passes: it shows one exactly where an entry of the table's map passes.
use Rattle.registry_tables.proofs.Words.{◌≡◌, ◌==◌, inl, ℕ, suc, List, [], ◌∷◌, length, not, ◌||◌, take, drop, Bool, true, false, arith, ne_eqb, refl, sym, ap, ◌∙◌, list_any, Value, State}
use Rattle.registry_tables.proofs.Words.{HasCleanDisk, Row, column, Binary, Compare, Eq, binary, is_true, Term, Schema, Table, Trees, Has, all_has, MapBy, entries, takes, equals, KeyKind, map_by}
use Rattle.registry_tables.proofs.Words.{IsReady, Ready, Reads, Queried, Finds, MeansQuery, by_column, is_wanted, select_first, Gives, query_starts, at_row, row_at, finds, and_true, row_parts}
use Rattle.registry_tables.proofs.Words.{some_has, some_from}
use Rattle.registry_tables.proofs.FoundFacts.{at_entry, entry_at}

-- ---- lists

pub or_true : (b : Bool) → (b || true) ≡ true
or_true true = refl
or_true false = refl

not_empty : {A : Type 0} (x : A) (xs : List A) → not (length (x ∷ xs) == 0) ≡ true
not_empty x xs = ap not (ne_eqb _ 0 (omega arith))

-- of some rows one is the first
some_first : {A : Type 0} (rows : List A) → not (length (take 1 rows) == 0) ≡ not (length rows == 0)
some_first [] = refl
some_first (r ∷ rows) = not_empty r (take 0 rows) ∙ sym (not_empty r rows)

-- ---- tables

module _ {k : KeyKind} {C X : Type 0} {schema : Schema} {contents : Trees → C} {place : ℕ} {table : Table} {value : Row → X} {change : C → MapBy k.cmp X → C} (t : Gives k schema contents place table value change)
    (s : State) (ready : IsReady schema s) where
  abbrev rows_of : List Row
  rows_of = s.now.trees table.tree

  abbrev entries_of : List (k.Key × X)
  entries_of = entries (map_by k value rows_of)

  module _ (wanted project : List Term) (params : Row) (has : X → Bool) (passes : (r : Row) → Has rows_of r → is_wanted wanted params r ≡ has (value (drop 1 r))) where
    abbrev test : k.Key × X → Bool
    test e = has e.1

    -- the entry of a row that passes
    entry_passes : (r : Row) → Has rows_of r → is_wanted wanted params r ≡ true → list_any test entries_of ≡ true
    entry_passes r h pass =
        some_from test entries_of (k.of_row r, value (drop 1 r)) (at_entry t.keyed.key (map_by k value rows_of) (k.of_row r) (value (drop 1 r)) (at_row k t.keyed.key value rows_of r (t.keyed.once s ready) h)) (sym (passes r h) ∙ pass)

    -- the row of an entry that passes
    row_passes : list_any test entries_of ≡ true → (r : Row) × Has rows_of r × (is_wanted wanted params r ≡ true)
    row_passes on =
        let it = some_has test entries_of on in
        let r = row_at k t.keyed.key value rows_of it.0.0 it.0.1 (entry_at t.keyed.key (map_by k value rows_of) it.0.0 it.0.1 it.1) in
        (r.0, r.1, passes r.0 r.1 ∙ ap has r.3 ∙ it.2)

    some_where : (rows : List Row) → Finds wanted project params rows_of rows → not (length rows == 0) ≡ list_any test entries_of
    some_where [] found = none (list_any test entries_of) refl
      where
        none : (b : Bool) → list_any test entries_of ≡ b → false ≡ b
        none false off = refl
        none true on = let it = row_passes on in absurd (found.complete it.0 it.1 it.2)
    some_where (x ∷ rows) found =
        let it = found.sound x (inl refl) in
        not_empty x rows ∙ sym (entry_passes it.0 it.1 it.2)

module _ {k : KeyKind} {C X : Type 0} {schema : Schema} {contents : Trees → C} {place : ℕ} {table : Table} {value : Row → X} {change : C → MapBy k.cmp X → C} (t : Gives k schema contents place table value change) where
  -- SELECT .. WHERE a column is ?1 LIMIT 1 shows a row exactly where the value of an entry has it
  pub select_some_by : (at : ℕ) (q : Value) → takes table.columns at q ≡ true → (has : X → Bool) → ((vs : Row) → equals q (column vs at) ≡ has (value vs))
      → (sql : List ℕ) (project : List Term) (names : List (List ℕ)) → MeansQuery schema sql (select_first 1 table project (by_column at) [] names)
      → (old new : State) (rows : List Row) → Ready schema old → Queried sql (q ∷ []) old new rows → HasCleanDisk new
      → Reads schema old new × (not (length rows == 0) ≡ list_any (λ (e : k.Key × X). has e.1) (entries (map_by k value (old.now.trees table.tree))))
  select_some_by at q typed has tells sql project names means old new rows form call clean =
      let it = query_starts schema sql 1 table.tree (by_column at) project [] names means (q ∷ []) old new rows (form (omega (arith, call.survives.clean, clean))) (call.shown clean) in
      let found = finds (by_column at) project [] (q ∷ []) (old.now.trees table.tree) it.2 it.3 in
      let passes : (r : Row) → Has (old.now.trees table.tree) r → is_wanted (by_column at) (q ∷ []) r ≡ has (value (drop 1 r)) = λ r h.
      let parts = row_parts r (all_has _ (old.now.trees table.tree) r (t.keyed.rowids old it.1).1 h) in
      and_true _ ∙ ap (λ (x : Row). is_true (binary (Compare Eq Binary) (column x (suc at)) q)) parts.1 ∙ t.keyed.equal old it.1 r h at q typed ∙ tells (drop 1 r) in
      (it.0, ap (λ (l : List Row). not (length l == 0)) it.4 ∙ some_first it.2 ∙ some_where t old it.1 (by_column at) project (q ∷ []) has passes it.2 found)
