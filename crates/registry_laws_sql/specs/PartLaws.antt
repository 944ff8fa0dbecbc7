-- Laws of statements by some texts of a key.
use Rattle.std.specs.Prelude.{◌≡◌, ℕ, true, not, List, ◌∷◌, map, filter}
use Rattle.sqlite.specs.declared.types.Value.{Value}
use Rattle.sqlite_value.specs.Order.{Row}
use Rattle.sqlite_trees.specs.Tree.{Trees}
use Rattle.sqlite_trees.specs.declared.store.Store.{Ghosts}
use Rattle.sqlite_sql.specs.Term.{Term}
use Rattle.sqlite_schema.specs.declared.schema.Schema.{Schema}
use Rattle.sqlite_schema.specs.declared.schema.Table.{Table}
use Rattle.registry_names.specs.Maps.{keep, entries, seen}
use Rattle.registry_rows.specs.TextKeys.{Texts, TextsMap, texts_are, texts_from, texts_row}
use Rattle.registry_rows.specs.Rows.{map_of}
use Rattle.registry_rows.specs.Statements.{Means, MeansQuery, IsUncascaded, delete_where, select_where, in_order, shown_by}
use Rattle.registry_rows.specs.Laws.{EachLeaves, EachShows}
use Rattle.registry_laws_sql.specs.Places.{Places, picked, are_places, by_places}

module _ {S : Type 0} (store : Ghosts S) {C X : Type 0} (schema : Schema) (contents : Trees → C) (place : ℕ) (table : Table) (more : ℕ) (value : Row → X) (change : C → TextsMap more X → C) where
  -- DELETE FROM t WHERE these texts of the key erases each key that has them, and keeps the rest
  abbrev pub DeleteErasesPart : Type 0
  DeleteErasesPart = (rest : ℕ) (places : Places rest) → are_places more rest places ≡ true → (sql : List ℕ) → Means schema sql (delete_where place table (by_places rest places 0)) → IsUncascaded schema table → (q : Texts rest)
      → EachLeaves store schema contents sql (texts_row rest q) (λ db. change (contents db) (keep (map_of more value (db table.tree)) (λ k. not (texts_are rest q (picked more rest places k)))))

module _ {S : Type 0} (store : Ghosts S) (Y : Type 0) {C X : Type 0} (schema : Schema) (contents : Trees → C) (place : ℕ) (table : Table) (more : ℕ) (value : Row → X) (change : C → TextsMap more X → C) where
  -- SELECT .. WHERE these texts of the key ORDER BY the key shows the entries whose keys have them,
  -- in the order of their keys. The texts that are asked for needn't be shown again
  abbrev pub SelectShowsPart : Type 0
  SelectShowsPart = (rest : ℕ) (places : Places rest) → are_places more rest places ≡ true → (sql : List ℕ) (project : List Term) (names : List (List ℕ)) → MeansQuery schema sql (select_where table project (by_places rest places 0) (in_order more 1) names)
      → (q : Texts rest) (read : Row → Texts more × Y) (g : X → Y) → ((id : Value) (vs : Row) → texts_are rest q (picked more rest places (texts_from more 0 vs)) ≡ true → read (shown_by project (texts_row rest q) (id ∷ vs)) ≡ (texts_from more 0 vs, g (value vs)))
      → EachShows store schema sql (texts_row rest q) read (λ db. map (seen g) (filter (λ e. texts_are rest q (picked more rest places e.0)) (entries (map_of more value (db table.tree)))))
