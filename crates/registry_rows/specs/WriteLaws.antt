-- What the rows of a table say, and laws of INSERT, DELETE, UPDATE and upserts by key.
use Rattle.std.specs.Prelude.{◌≡◌, ◌↔◌, ℕ, true, List, [], ◌∷◌, ◌++◌, drop, length, Option, None, Some, if◌then◌else◌}
use Rattle.sqlite.specs.declared.types.Value.TheVariants.{Null}
use Rattle.sqlite_value.specs.Order.{Row}
use Rattle.sqlite_trees.specs.Tree.{Trees, rowid}
use Rattle.sqlite_trees.specs.declared.store.Store.{Ghosts}
use Rattle.sqlite_sql.specs.Term.{Term, eval_all}
use Rattle.sqlite_schema.specs.declared.schema.Schema.{Schema}
use Rattle.sqlite_schema.specs.declared.schema.Table.{Table}
use Rattle.sqlite_rules.specs.Lists.{Has}
use Rattle.registry_names.specs.Maps.{MapBy, at, put, erase, revise}
use Rattle.registry_rows.specs.Columns.{are_exact}
use Rattle.registry_rows.specs.KeyKinds.{KeyKind, map_by, OneEach}
use Rattle.registry_rows.specs.Statements.{Means, IsUncascaded, ignores_updates, has_plain_keys, insert_values, delete_where, update_where, upsert_values, set_row, are_set, row_after, are_set_after}
use Rattle.registry_rows.specs.Ready.{IsReady, Leaves}
use Rattle.registry_rows.specs.Laws.{OfEachState, EachAnswer, EachLeaves}

-- The text is UPDATE t SET .. WHERE the key, with these parameters: of a value it makes `set`, and
-- a row keeps its key.
pub record SetsColumns {X : Type 0} (k : KeyKind) (schema : Schema) (place : ℕ) (table : Table) (value : Row → X) (sql : List ℕ) (sets : List (Option ℕ)) (params : Row) (set : X → X) : Type 0 where
  pub means : Means schema sql (update_where place table sets k.wanted)
  pub quiet : ignores_updates schema ≡ true
  pub exact : are_set table.columns sets params ≡ true
  pub value_is : (vs : Row) → value (set_row 0 sets params vs) ≡ set (value vs)
  pub keeps_key : (r : Row) → k.of_row (rowid r ∷ set_row 0 sets params (drop 1 r)) ≡ k.of_row r

-- The text is INSERT INTO t VALUES (..) ON CONFLICT (the primary key) DO UPDATE SET .., with these
-- parameters: a row that is there keeps its key, and takes the value of the new one. Or it is the
-- same with DO NOTHING: a row that is there has the value of the new one.
pub record PutsColumns {X : Type 0} (k : KeyKind) (schema : Schema) (place : ℕ) (table : Table) (value : Row → X) (sql : List ℕ) (cells : List Term) (sets : Option (List (Option ℕ))) (params : Row) : Type 0 where
  pub means : Means schema sql (upsert_values place table cells sets (length params))
  pub quiet : ignores_updates schema ≡ true
  pub plain : has_plain_keys schema table ≡ true
  pub inserts : are_exact table.columns (eval_all cells (params ∷ [])) ≡ true
  pub updates : are_set_after table.columns sets params ≡ true
  pub value_is : (vs : Row) → value (row_after sets params vs) ≡ value (eval_all cells (params ∷ []))
  pub keeps_key : (r : Row) → k.of_row (rowid r ∷ row_after sets params (drop 1 r)) ≡ k.of_row r

module _ {S : Type 0} (store : Ghosts S) {C X : Type 0} (k : KeyKind) (schema : Schema) (contents : Trees → C) (place : ℕ) (table : Table) (value : Row → X) (change : C → MapBy k.cmp X → C) where
  -- the map that the table's rows give
  abbrev map_in : Trees → MapBy k.cmp X
  map_in db = map_by k value (db table.tree)

  -- two rows with the same key are the same row
  abbrev pub OneRowEach : Type 0
  OneRowEach = OfEachState store (λ s. IsReady schema s → OneEach k (s.now.trees table.tree))

  -- the map has x at a key exactly where the table has a row of that key and x
  abbrev pub RowsTellMap : Type 0
  RowsTellMap = OfEachState store (λ s. IsReady schema s → (q : k.Key) (x : X)
      → (at (map_in s.now.trees) q ≡ Some x) ↔ ((r : Row) × Has (s.now.trees table.tree) r × (k.of_row r ≡ q) × (value (drop 1 r) ≡ x)))

  -- ---- INSERT INTO t VALUES (..)

  -- it puts the value at its key
  abbrev pub InsertPuts : Type 0
  InsertPuts = (sql : List ℕ) (cells : List Term) → Means schema sql (insert_values place cells) → (params : Row) → are_exact table.columns (eval_all cells (params ∷ [])) ≡ true
      → EachLeaves store schema contents sql params (λ db. change (contents db) (put (map_in db) (k.of_row (Null ∷ eval_all cells (params ∷ []))) (value (eval_all cells (params ∷ [])))))

  -- it is answered only where nothing had the key
  abbrev pub InsertMeetsNone : Type 0
  InsertMeetsNone = (sql : List ℕ) (cells : List Term) → Means schema sql (insert_values place cells) → (params : Row) → are_exact table.columns (eval_all cells (params ∷ [])) ≡ true
      → EachAnswer store schema sql params (λ old new. at (map_in old.now.trees) (k.of_row (Null ∷ eval_all cells (params ∷ []))) ≡ None)

  -- ---- DELETE FROM t WHERE the key

  -- it erases what is there
  abbrev pub DeleteErases : Type 0
  DeleteErases = (sql : List ℕ) → Means schema sql (delete_where place table k.wanted) → IsUncascaded schema table → (q : k.Key)
      → EachLeaves store schema contents sql (k.params q) (λ db. change (contents db) (erase (map_in db) q))

  -- ---- UPDATE t SET .. WHERE the key

  -- it revises the value there
  abbrev pub UpdateRevises : Type 0
  UpdateRevises = (sql : List ℕ) (sets : List (Option ℕ)) (q : k.Key) (rest : Row) (set : X → X) → SetsColumns k schema place table value sql sets (k.params q ++ rest) set
      → EachLeaves store schema contents sql (k.params q ++ rest) (λ db. change (contents db) (revise (map_in db) (λ p x. if k.same q p then set x else x)))

  -- where it is known that one is there, it puts the revised one
  abbrev pub UpdatePuts : Type 0
  UpdatePuts = (sql : List ℕ) (sets : List (Option ℕ)) (q : k.Key) (rest : Row) (set : X → X) → SetsColumns k schema place table value sql sets (k.params q ++ rest) set → (x : X)
      → EachAnswer store schema sql (k.params q ++ rest) (λ old new. at (map_in old.now.trees) q ≡ Some x → Leaves schema contents (change (contents old.now.trees) (put (map_in old.now.trees) q (set x))) new)

  -- ---- INSERT INTO t VALUES (..) ON CONFLICT (the primary key) DO UPDATE SET .., or DO NOTHING

  -- it puts the value at its key, whatever is there
  abbrev pub UpsertPuts : Type 0
  UpsertPuts = (sql : List ℕ) (cells : List Term) (sets : Option (List (Option ℕ))) (params : Row) → PutsColumns k schema place table value sql cells sets params
      → EachLeaves store schema contents sql params (λ db. change (contents db) (put (map_in db) (k.of_row (Null ∷ eval_all cells (params ∷ []))) (value (eval_all cells (params ∷ [])))))
