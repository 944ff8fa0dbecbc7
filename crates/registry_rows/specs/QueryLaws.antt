-- Laws of SELECT by key, by a column, and in the order of the key.
use Rattle.std.specs.Prelude.{◌≡◌, ℕ, suc, Bool, true, List, [], ◌∷◌, map, filter, take, option_map}
use Rattle.sqlite.specs.declared.types.Value.{Value}
use Rattle.sqlite.specs.declared.types.Value.TheVariants.{Text as Stored}
use Rattle.sqlite_value.specs.Order.{Row, column}
use Rattle.sqlite_trees.specs.Tree.{Trees}
use Rattle.sqlite_trees.specs.declared.store.Store.{Ghosts}
use Rattle.sqlite_sql.specs.Term.{Term}
use Rattle.sqlite_schema.specs.declared.schema.Schema.{Schema}
use Rattle.sqlite_schema.specs.declared.schema.Table.{Table}
use Rattle.registry_names.specs.Texts.{Text}
use Rattle.registry_names.specs.Maps.{MapBy, at, entries, part, parts, seen}
use Rattle.registry_rows.specs.Columns.{takes, equals}
use Rattle.registry_rows.specs.TextKeys.{Texts, texts_cmp, texts_from}
use Rattle.registry_rows.specs.KeyKinds.{KeyKind, map_by}
use Rattle.registry_rows.specs.Rows.{map_of, listed}
use Rattle.registry_rows.specs.Statements.{MeansQuery, select_where, select_first, by_texts, by_column, in_order, shown_by}
use Rattle.registry_rows.specs.Laws.{EachShows}

module _ {S : Type 0} (store : Ghosts S) (Y : Type 0) {C X : Type 0} (k : KeyKind) (schema : Schema) (contents : Trees → C) (place : ℕ) (table : Table) (value : Row → X) (change : C → MapBy k.cmp X → C) where
  -- SELECT .. WHERE the key shows the value there, or nothing
  abbrev pub SelectFinds : Type 0
  SelectFinds = (sql : List ℕ) (project : List Term) (names : List (List ℕ)) → MeansQuery schema sql (select_where table project k.wanted [] names) → (q : k.Key)
      → (read : Row → Y) (g : X → Y) → ((id : Value) (vs : Row) → read (shown_by project (k.params q) (id ∷ vs)) ≡ g (value vs))
      → EachShows store schema sql (k.params q) read (λ db. listed (option_map g (at (map_by k value (db table.tree)) q)))

  -- SELECT .. WHERE a column is ?1 ORDER BY the key shows the entries whose values have it, in the
  -- order of their keys
  abbrev pub SelectHas : Type 0
  SelectHas = (at : ℕ) (q : Value) → takes table.columns at q ≡ true → (has : X → Bool) → ((vs : Row) → equals q (column vs at) ≡ has (value vs))
      → (sql : List ℕ) (project : List Term) (names : List (List ℕ)) → MeansQuery schema sql (select_where table project (by_column at) k.order names)
      → (read : Row → k.Key × Y) (g : X → Y) → ((id : Value) (vs : Row) → read (shown_by project (q ∷ []) (id ∷ vs)) ≡ (k.of_row (id ∷ vs), g (value vs)))
      → EachShows store schema sql (q ∷ []) read (λ db. map (seen g) (filter (λ e. has e.1) (entries (map_by k value (db table.tree)))))

  -- SELECT .. ORDER BY the key shows the map, in the order of its keys
  abbrev pub SelectListsAll : Type 0
  SelectListsAll = (sql : List ℕ) (project : List Term) (names : List (List ℕ)) → MeansQuery schema sql (select_where table project [] k.order names)
      → (read : Row → k.Key × Y) (g : X → Y) → ((id : Value) (vs : Row) → read (shown_by project [] (id ∷ vs)) ≡ (k.of_row (id ∷ vs), g (value vs)))
      → EachShows store schema sql [] read (λ db. map (seen g) (entries (map_by k value (db table.tree))))

module _ {S : Type 0} (store : Ghosts S) (Y : Type 0) {C X : Type 0} (schema : Schema) (contents : Trees → C) (place : ℕ) (table : Table) (more : ℕ) (value : Row → X) where
  -- SELECT .. WHERE the first text ORDER BY the rest of the key shows the map's part, in the order
  -- of the rests
  abbrev pub SelectLists : Type 0
  SelectLists = (sql : List ℕ) (project : List Term) (names : List (List ℕ)) → MeansQuery schema sql (select_where table project (by_texts 0 1 0) (in_order more 2) names) → (p : Text)
      → (read : Row → Texts more × Y) (g : X → Y) → ((id : Value) (vs : Row) → read (shown_by project (Stored p ∷ []) (id ∷ vs)) ≡ (texts_from more 1 vs, g (value vs)))
      → EachShows store schema sql (Stored p ∷ []) read (λ db. map (seen g) (part (texts_cmp more) (map_of (suc more) value (db table.tree)) p))

  -- with LIMIT it shows this many entries of that part, from the first on
  abbrev pub SelectListsFirst : Type 0
  SelectListsFirst = (count : ℕ) (sql : List ℕ) (project : List Term) (names : List (List ℕ)) → MeansQuery schema sql (select_first count table project (by_texts 0 1 0) (in_order more 2) names) → (p : Text)
      → (read : Row → Texts more × Y) (g : X → Y) → ((id : Value) (vs : Row) → read (shown_by project (Stored p ∷ []) (id ∷ vs)) ≡ (texts_from more 1 vs, g (value vs)))
      → EachShows store schema sql (Stored p ∷ []) read (λ db. take count (map (seen g) (part (texts_cmp more) (map_of (suc more) value (db table.tree)) p)))

  -- SELECT .. WHERE the first two texts ORDER BY the rest of the key shows the part of that part
  abbrev pub SelectListsTwo : Type 0
  SelectListsTwo = (sql : List ℕ) (project : List Term) (names : List (List ℕ)) → MeansQuery schema sql (select_where table project (by_texts 1 1 0) (in_order more 3) names) → (p q : Text)
      → (read : Row → Texts more × Y) (g : X → Y) → ((id : Value) (vs : Row) → read (shown_by project (Stored p ∷ Stored q ∷ []) (id ∷ vs)) ≡ (texts_from more 2 vs, g (value vs)))
      → EachShows store schema sql (Stored p ∷ Stored q ∷ []) read (λ db. map (seen g) (parts (part (texts_cmp (suc more)) (map_of (suc (suc more)) value (db table.tree)) p) q))
