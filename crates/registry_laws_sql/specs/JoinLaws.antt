-- The law of a query on two tables.
use Rattle.std.specs.Prelude.{◌≡◌, ◌↔◌, ℕ, true, List, [], ◌∷◌, map}
use Rattle.sqlite.specs.declared.types.Value.{Value}
use Rattle.sqlite_value.specs.Order.{Row}
use Rattle.sqlite_trees.specs.Tree.{Trees}
use Rattle.sqlite_trees.specs.declared.store.Store.{Ghosts}
use Rattle.sqlite_sql.specs.Term.{Term, eval_all}
use Rattle.sqlite_schema.specs.declared.schema.Schema.{Schema}
use Rattle.sqlite_schema.specs.declared.schema.Table.{Table}
use Rattle.sqlite_rules.specs.Lists.{Has}
use Rattle.sqlite.specs.State.{HasCleanDisk}
use Rattle.registry_rows.specs.TextKeys.{Texts, TextsMap, texts_from}
use Rattle.registry_rows.specs.Rows.{map_of}
use Rattle.registry_rows.specs.Statements.{MeansQuery}
use Rattle.registry_rows.specs.Laws.{OfEachCall}
use Rattle.registry_rows.specs.Ready.{Ready, Reads, Queried, IsMapped}
use Rattle.registry_laws_sql.specs.Joins.{Side, joins, are_sides, select_join, IsJoined}

-- SELECT .. FROM t, u WHERE texts of their keys are equal shows exactly what each two entries whose
-- keys pass give. Neither the order nor how often a row is shown counts.
abbrev pub SelectJoins : {S : Type 0} → Ghosts S → (C X Z Y : Type 0) → Type 0
SelectJoins store C X Z Y =
    (schema : Schema) (contents : Trees → C) (place : ℕ) (table : Table) (m : ℕ) (value : Row → X) (change : C → TextsMap m X → C) → IsMapped schema contents place table m value change
    → (other_place : ℕ) (other : Table) (n : ℕ) (other_value : Row → Z) (other_change : C → TextsMap n Z → C) → IsMapped schema contents other_place other n other_value other_change
    → (ps : List (Side × Side)) (sql : List ℕ) (project : List Term) (names : List (List ℕ)) → MeansQuery schema sql (select_join table other project ps names)
    → (params : Row) → are_sides m n params ps ≡ true → (read : Row → Y) (show : Texts m → X → Texts n → Z → Y)
    → ((id other_id : Value) (vs us : Row) → read (eval_all project (params ∷ (id ∷ vs) ∷ (other_id ∷ us) ∷ [])) ≡ show (texts_from m 0 vs) (value vs) (texts_from n 0 us) (other_value us))
    → OfEachCall store (λ old new. (rows : List Row) → Ready schema old → Queried sql params old new rows → HasCleanDisk new
    → Reads schema old new × ((y : Y) → Has (map read rows) y ↔ IsJoined m n (map_of m value (old.now.trees table.tree)) (map_of n other_value (old.now.trees other.tree)) (joins m n params ps) show y))
