-- The law of DELETE by key where rows of other tables go too.
use Rattle.std.specs.Prelude.{ℕ, List}
use Rattle.sqlite_value.specs.Order.{Row}
use Rattle.sqlite_trees.specs.Tree.{Trees}
use Rattle.sqlite_trees.specs.declared.store.Store.{Ghosts}
use Rattle.sqlite_schema.specs.declared.schema.Schema.{Schema}
use Rattle.sqlite_schema.specs.declared.schema.Table.{Table}
use Rattle.registry_names.specs.Maps.{erase}
use Rattle.registry_rows.specs.TextKeys.{Texts, TextsMap, texts_row}
use Rattle.registry_rows.specs.Rows.{map_of}
use Rattle.registry_rows.specs.Statements.{Means, delete_where, by_texts}
use Rattle.registry_rows.specs.Laws.{EachLeaves}
use Rattle.registry_laws_sql.specs.Cascades.{Child, HasChildren, all_erased}

module _ {S : Type 0} (store : Ghosts S) {C X : Type 0} (schema : Schema) (contents : Trees → C) (place : ℕ) (table : Table) (more : ℕ) (value : Row → X) (change : C → TextsMap more X → C) where
  -- DELETE FROM t WHERE the key erases what is there, and in each table that refers to it exactly
  -- what referred to that
  abbrev pub DeleteCascades : Type 0
  DeleteCascades = (sql : List ℕ) → Means schema sql (delete_where place table (by_texts more 1 0)) → (children : List (Child C more)) → HasChildren schema contents table children → (q : Texts more)
      → EachLeaves store schema contents sql (texts_row more q) (λ db. all_erased children q (change (contents db) (erase (map_of more value (db table.tree)) q)))
