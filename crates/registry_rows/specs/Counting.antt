-- AUTOINCREMENT: which numbers it gives, where it counts them, and the law of its INSERT.
use Rattle.std.specs.Prelude.{◌≡◌, ◌==◌, ℕ, ℤ, pos, ◌+ℤ◌, ◌<ℤ◌, ◌≤ℤ◌, Bool, true, false, List, [], ◌∷◌, fold, find, drop, Option, None, Some, option_map, unwrap_or, if◌then◌else◌}
use Rattle.std.specs.Int.{int_max}
use Rattle.std.specs.Ordering.{is_eq}
use Rattle.sqlite.specs.declared.types.Value.{Value}
use Rattle.sqlite.specs.declared.types.Value.TheVariants.{Null, Int, Text}
use Rattle.sqlite_value.specs.Order.{Row, column, value_cmp}
use Rattle.sqlite_trees.specs.Tree.{Trees}
use Rattle.sqlite_trees.specs.declared.store.Store.{Ghosts}
use Rattle.sqlite_sql.specs.declared.ops.UnaryOp.TheVariants.{ToInt}
use Rattle.sqlite_sql.specs.Ops.{unary}
use Rattle.sqlite_sql.specs.Term.{Term, lit, eval_all}
use Rattle.sqlite_schema.specs.declared.schema.Schema.{Schema}
use Rattle.sqlite_schema.specs.declared.schema.Table.{Table}
use Rattle.sqlite_rules.specs.Edit.{id_in}
use Rattle.sqlite.specs.Rows.{sequence}
use Rattle.sqlite.specs.State.{State}
use Rattle.registry_names.specs.Maps.{at, put, entries}
use Rattle.registry_rows.specs.Columns.{are_exact}
use Rattle.registry_rows.specs.Tables.{sequence_table}
use Rattle.registry_rows.specs.KeyKinds.{NumberMap, numbers, map_by}
use Rattle.registry_rows.specs.Statements.{Means, ignores_updates, insert_values}
use Rattle.registry_rows.specs.Ready.{Leaves, with_rows, IsNumbered}
use Rattle.registry_rows.specs.Laws.{EachAnswer}

-- ---- the rows of sqlite_sequence, of which the first that has a table's name counts for it

abbrev pub has_name : List ℕ → Row → Bool
has_name name r = is_eq (value_cmp (column r 1) (Text name))

-- what that row has as the count, where there is one
abbrev pub count_value : List ℕ → List Row → Option Value
count_value name counters = option_map (λ r. column r 2) (find (has_name name) counters)

-- the number that SQLite takes a count for, and 0 where there is no count
abbrev pub counted : Option Value → ℤ
counted count = id_in (unary ToInt (unwrap_or count Null))

-- the number that the rows have for a table
abbrev pub count_in : List ℕ → List Row → ℤ
count_in name counters = counted (count_value name counters)

-- the other rows, in their order
abbrev pub other_counts : List ℕ → List Row → List Row
other_counts name [] = []
other_counts name (r ∷ rs) = if has_name name r then rs else r ∷ other_counts name rs

-- ---- the numbers of rows

-- the greatest key, or 0
abbrev pub last_number : {X : Type 0} → NumberMap X → ℤ
last_number m = fold (λ _ e. e.0) (pos 0) (entries m)

-- the number of the next row: one above the greatest key, and above the count
abbrev pub next_number : {X : Type 0} → ℤ → NumberMap X → ℤ
next_number count m = int_max count (last_number m) +ℤ pos 1

-- The table counts in the rows of this tree, which is that of sqlite_sequence. Rows that differ
-- from those that are there only in the table's count, a whole number, give the contents with that
-- count. Where the contents leave it out, `count` changes nothing.
pub record IsCounted {C : Type 0} (schema : Schema) (contents : Trees → C) (table : Table) (counters : ℕ) (count : C → ℤ → C) : Type 0 where
  pub counts : table.is_counted ≡ true
  pub sequence_is : sequence schema ≡ Some (sequence_table counters)
  pub apart : (table.tree == counters) ≡ false
  pub quiet : ignores_updates schema ≡ true
  pub counting : (db : Trees) (rows : List Row) (n : ℤ) → count_value table.name rows ≡ Some (Int n) → other_counts table.name rows ≡ other_counts table.name (db counters)
      → contents (with_rows db counters rows) ≡ count (contents db) n

-- the number that the next row of a table gets
abbrev pub next_in : {X : Type 0} → (Row → X) → Table → ℕ → Trees → ℤ
next_in value table counters db = next_number (count_in table.name (db counters)) (map_by numbers value (db table.tree))

-- the values are under the next number, which is counted, and answered as the last rowid
pub record TakesNext {C X : Type 0} (schema : Schema) (contents : Trees → C) (table : Table) (value : Row → X) (change : C → NumberMap X → C) (counters : ℕ) (count : C → ℤ → C) (values : Row) (old new : State) : Type 0 where
  pub leaves : Leaves schema contents
      (count (change (contents old.now.trees) (put (map_by numbers value (old.now.trees table.tree)) (next_in value table counters old.now.trees) (value (Null ∷ values)))) (next_in value table counters old.now.trees)) new
  pub answered : new.last_rowid ≡ next_in value table counters old.now.trees

-- INSERT INTO t (every column but the id) VALUES (..) gives the row the next number
abbrev pub InsertNumbers : {S : Type 0} → Ghosts S → (C X : Type 0) → Type 0
InsertNumbers store C X = (schema : Schema) (contents : Trees → C) (place : ℕ) (table : Table) (value : Row → X) (change : C → NumberMap X → C) → IsNumbered schema contents place table value change
    → (counters : ℕ) (count : C → ℤ → C) → IsCounted schema contents table counters count
    → (sql : List ℕ) (cells : List Term) → Means schema sql (insert_values place (lit Null ∷ cells)) → (params : Row) → are_exact (drop 1 table.columns) (eval_all cells (params ∷ [])) ≡ true
    → EachAnswer store schema sql params (TakesNext schema contents table value change counters count (eval_all cells (params ∷ [])))

-- the next number is above the count, and above each key: no row has it
pub record IsNew {X : Type 0} (count : ℤ) (m : NumberMap X) (n : ℤ) : Type 0 where
  pub counted : count <ℤ n
  pub above : (k : ℤ) (x : X) → at m k ≡ Some x → k <ℤ n
  pub free : at m n ≡ None

abbrev pub NextIsNew : Type 0 → Type 0
NextIsNew X = (count : ℤ) (m : NumberMap X) → IsNew count m (next_number count m)

-- where no key is above the count, the next number is the one after it
abbrev pub NextIsAfter : Type 0 → Type 0
NextIsAfter X = (count : ℤ) (m : NumberMap X) → ((k : ℤ) (x : X) → at m k ≡ Some x → k ≤ℤ count) → pos 0 ≤ℤ count → next_number count m ≡ count +ℤ pos 1
