-- A query for all rows of a table in the order of their numbers shows them one after another.
use Rattle.std.proofs.Common.{◌≡◌, ◌∙◌, ℕ, ℤ, true, List, [], ◌∷◌, map, drop, slice_get, Some, refl, sym, ap, ap₂, subst₂, arith, Less, is_lt, IsTrue}
use Rattle.std.specs.FinMap.Entries.{below_all}
use Rattle.std.specs.List.{AllByRecursion}
use Rattle.std.specs.Ordering.{int_cmp, int_eq}
use Rattle.std.proofs.lemmas.Bool.{and_from}
use Rattle.sqlite.specs.declared.types.Value.{Value}
use Rattle.sqlite.specs.declared.types.Value.TheVariants.{Int}
use Rattle.sqlite.specs.State.{State, HasCleanDisk}
use Rattle.sqlite_value.specs.Order.{Row, value_cmp}
use Rattle.sqlite_value.proofs.OrderLemmas.{value_cmp-Int}
use Rattle.sqlite_trees.specs.Tree.{rowid}
use Rattle.sqlite_trees.specs.View.{is_int}
use Rattle.sqlite_sql.specs.Query.{key_cmp}
use Rattle.sqlite_sql.specs.Term.{Term}
use Rattle.sqlite_schema.specs.declared.schema.Schema.{Schema}
use Rattle.sqlite_schema.specs.declared.schema.Table.{Table}
use Rattle.sqlite_rules.specs.Lists.{Has}
use Rattle.sqlite_rules.proofs.ListLemmas.{all_has}
use Rattle.registry_names.specs.Maps.{first_at, rises}
use Rattle.registry_rows.specs.KeyKinds.{numbers}
use Rattle.registry_rows.specs.Ready.{Queried, Reads, Ready}
use Rattle.registry_rows.specs.Rows.{HasRowids}
use Rattle.registry_rows.specs.Statements.{MeansQuery, Selects, select_where, shown_by}
use Rattle.registry_rows.proofs.KeyedFacts.{number_is, number_key, numbers_once}
use Rattle.registry_rows.proofs.ListFacts.{has_mapped, map_has}
use Rattle.registry_rows.proofs.ListingFacts.{first_risen}
use Rattle.registry_rows.proofs.LookUpFacts.{seen_as_is}
use Rattle.registry_rows.proofs.OneRowFacts.{table_rowids}
use Rattle.registry_rows.proofs.OrderFacts.{found_has, lists}
use Rattle.registry_rows.proofs.QueryFacts.{query_reads}
use Rattle.registry_rows.proofs.TextKeyFacts.{row_parts, then_equal}

module _ {X : Type 0} (value : Row → X) where
  -- a row's number, and what its columns say
  abbrev pub numbered : Row → ℤ × X
  numbered r = (numbers.of_row r, value (drop 1 r))

  below_rows : (r : Row) (rs : List Row) → IsTrue (is_int (rowid r)) → AllByRecursion (λ x. value_cmp (rowid r) (rowid x) ≡ Less) rs → AllByRecursion (λ x. IsTrue (is_int (rowid x))) rs
      → below_all int_cmp (numbers.of_row r) (map numbered rs) ≡ true
  below_rows r [] int low ints = refl
  below_rows r (x ∷ rs) int low ints =
      let less : int_cmp (numbers.of_row r) (numbers.of_row x) ≡ Less =
      sym (value_cmp-Int (numbers.of_row r) (numbers.of_row x)) ∙ ap₂ value_cmp (sym (number_is (rowid r) int)) (sym (number_is (rowid x) ints.0)) ∙ low.0 in
      and_from _ _ (ap is_lt less) (below_rows r rs int low.1 ints.1)

  -- the numbers of rows rise
  pub numbers_rise : (rs : List Row) → HasRowids rs → rises int_cmp (map numbered rs) ≡ true
  numbers_rise [] ids = refl
  numbers_rise (r ∷ rs) ids = and_from _ _ (below_rows r rs ids.1.0 ids.0.0 ids.1.1) (numbers_rise rs (ids.0.1, ids.1.1))

  module _ (table : List Row) (ids : HasRowids table) where
    number_of : (r : Row) → Has table r → rowid r ≡ Int (numbers.of_row r)
    number_of r h = number_is (rowid r) (all_has _ table r ids.1 h)

    sorted : (params a b : Row) → Has table a → Has table b
        → key_cmp 0 (map (λ o. o.1) numbers.order) (shown_by (map (λ o. o.0) numbers.order) params a) (shown_by (map (λ o. o.0) numbers.order) params b) ≡ int_cmp (numbers.of_row a) (numbers.of_row b)
    sorted params a b ha hb =
        then_equal _ ∙ subst₂ (λ v w. value_cmp v w ≡ int_cmp (numbers.of_row a) (numbers.of_row b)) (sym (number_of a ha)) (sym (number_of b hb)) (value_cmp-Int (numbers.of_row a) (numbers.of_row b))

    -- a query of all of them shows them in their order
    shown_each : (project : List Term) (read : Row → ℤ × X) → ((id : Value) (vs : Row) → read (shown_by project [] (id ∷ vs)) ≡ numbered (id ∷ vs))
        → (rows : List Row) → Selects [] project numbers.order [] table rows → map read rows ≡ map numbered table
    shown_each project read shows rows it =
        lists number_key table [] project numbers.order [] numbers.of_row (λ r. value (drop 1 r)) (λ (x : X). x) read ids.0
        (λ r h _. let parts = row_parts r (all_has _ table r ids.1 h) in ap (λ (z : Row). read (shown_by project [] z)) parts.1 ∙ shows parts.0 (drop 1 r) ∙ ap numbered (sym parts.1))
        (λ a b ha hb _ _ e. numbers_once table ids a b ha hb e)
        (λ a b ha hb _ _. sorted [] a b ha hb)
        (first_at int_eq (map numbered table))
        (λ r h _. first_risen number_key (numbers.of_row r) (value (drop 1 r)) (map numbered table) (numbers_rise table ids) (map_has numbered table r h))
        (λ j x e.
        let r = has_mapped numbered table (j, x) (found_has number_key j x (map numbered table) e) in
        (r.0, r.1, refl, ap (λ (d : ℤ × X). d.0) (sym r.2), ap (λ (d : ℤ × X). d.1) (sym r.2)))
        rows it (map numbered table) (numbers_rise table ids) (λ j. refl)
        ∙ seen_as_is (map numbered table)

  -- SELECT .. ORDER BY rowid shows each row of the table
  pub select_rows : (schema : Schema) (place : ℕ) (table : Table) → slice_get schema.tables place ≡ Some table → (sql : List ℕ) (project : List Term) (names : List (List ℕ))
      → MeansQuery schema sql (select_where table project [] numbers.order names) → (read : Row → ℤ × X) → ((id : Value) (vs : Row) → read (shown_by project [] (id ∷ vs)) ≡ numbered (id ∷ vs))
      → (old new : State) (rows : List Row) → Ready schema old → Queried sql [] old new rows → HasCleanDisk new → Reads schema old new × (map read rows ≡ map numbered (old.now.trees table.tree))
  select_rows schema place table found sql project names means read shows old new rows form call clean =
      let it = query_reads schema sql table.tree [] project numbers.order names means [] old new rows (form (omega (arith, call.survives.clean, clean))) (call.shown clean) in
      (it.0, shown_each (old.now.trees table.tree) (table_rowids schema old place table it.1 found) project read shows rows it.2)
