-- Statements by some texts of a key.
use Rattle.std.proofs.Common.{◌≡◌, ℕ, List, ◌∷◌, map, filter, not, true, Result, OnOk, ap, ◌∙◌}
use Rattle.sqlite.specs.declared.types.Value.{Value}
use Rattle.sqlite_value.specs.Order.{Row}
use Rattle.sqlite_trees.specs.Tree.{Trees}
use Rattle.sqlite_sql.specs.Term.{Term}
use Rattle.sqlite_schema.specs.declared.schema.Schema.{Schema}
use Rattle.sqlite_schema.specs.declared.schema.Table.{Table}
use Rattle.sqlite_rules.specs.Lists.{Has}
use Rattle.sqlite.specs.declared.error.Error.{Error}
use Rattle.sqlite.specs.State.{State, HasCleanDisk}
use Rattle.registry_names.specs.Maps.{keep, entries, seen}
use Rattle.registry_rows.specs.TextKeys.{Texts, TextsMap, texts_are, texts_from, texts_row}
use Rattle.registry_rows.specs.Rows.{map_of, key_of}
use Rattle.registry_rows.specs.Statements.{Means, MeansQuery, IsUncascaded, delete_where, select_where, in_order, is_wanted, shown_by}
use Rattle.registry_rows.specs.Ready.{IsReady, Ready, Leaves, Reads, Executed, Queried, IsMapped}
use Rattle.registry_rows.proofs.KeyedFacts.{texts_of, by_texts_given}
use Rattle.registry_rows.proofs.StatementFacts.{delete_keeps_by}
use Rattle.registry_rows.proofs.LookUpFacts.{select_passes_by}
use Rattle.registry_laws_sql.specs.Places.{Places, picked, are_places, by_places}
use Rattle.registry_laws_sql.proofs.PlaceFacts.{texts_picked, typed_at, tests_places}

module _ {C X : Type 0} {schema : Schema} {contents : Trees → C} {place : ℕ} {table : Table} {more : ℕ} {value : Row → X} {change : C → TextsMap more X → C} (t : IsMapped schema contents place table more value change) where
  passes : (rest : ℕ) (places : Places rest) → are_places more rest places ≡ true → (q : Texts rest) (s : State) → IsReady schema s → (r : Row) → Has (s.now.trees table.tree) r
      → is_wanted (by_places rest places 0) (texts_row rest q) r ≡ texts_are rest q (picked more rest places (key_of more r))
  passes rest places within q s ready r h = tests_places rest places q r (typed_at more rest places within r (texts_of t s ready r h)) ∙ ap (texts_are rest q) (texts_picked more rest places within r)

  -- DELETE FROM t WHERE some texts of the key
  pub delete_part : (rest : ℕ) (places : Places rest) → are_places more rest places ≡ true → (sql : List ℕ) → Means schema sql (delete_where place table (by_places rest places 0)) → IsUncascaded schema table → (q : Texts rest)
      → (old new : State) (r : Result ℕ Error) → Ready schema old → Executed sql (texts_row rest q) old new r → HasCleanDisk new
      → OnOk r (Leaves schema contents (change (contents old.now.trees) (keep (map_of more value (old.now.trees table.tree)) (λ k. not (texts_are rest q (picked more rest places k))))) new)
  delete_part rest places within sql means quiet q old new =
      delete_keeps_by (by_texts_given t) sql (by_places rest places 0) means quiet (texts_row rest q) (λ k. texts_are rest q (picked more rest places k)) old new (passes rest places within q old)

  -- SELECT .. WHERE some texts of the key ORDER BY the key
  pub select_part : {Y : Type 0} (rest : ℕ) (places : Places rest) → are_places more rest places ≡ true → (sql : List ℕ) (project : List Term) (names : List (List ℕ)) → MeansQuery schema sql (select_where table project (by_places rest places 0) (in_order more 1) names)
      → (q : Texts rest) (read : Row → Texts more × Y) (g : X → Y) → ((id : Value) (vs : Row) → texts_are rest q (picked more rest places (texts_from more 0 vs)) ≡ true → read (shown_by project (texts_row rest q) (id ∷ vs)) ≡ (texts_from more 0 vs, g (value vs)))
      → (old new : State) (rows : List Row) → Ready schema old → Queried sql (texts_row rest q) old new rows → HasCleanDisk new
      → Reads schema old new × (map read rows ≡ map (seen g) (filter (λ (e : Texts more × X). texts_are rest q (picked more rest places e.0)) (entries (map_of more value (old.now.trees table.tree)))))
  select_part rest places within sql project names means q read g shows old new =
      select_passes_by (by_texts_given t) sql (by_places rest places 0) project names means (texts_row rest q) (λ e. texts_are rest q (picked more rest places e.0)) read g shows old new (passes rest places within q old)
