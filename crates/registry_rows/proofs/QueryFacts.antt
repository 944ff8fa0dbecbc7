-- What a query inside a transaction keeps.
use Rattle.std.proofs.Common.{◌≡◌, ◌⊎◌, inl, inr, ℕ, List, take, Option, None, Some, Result, Ok, Err, OnOk, [], sym, ap, subst, ◌∙◌, IsTrue}
use Rattle.std.specs.List.{AllByRecursion}
use Rattle.sqlite_value.specs.Order.{Row}
use Rattle.sqlite_value.specs.declared.keys.Key.{Key}
use Rattle.sqlite_sql.specs.Term.{Term}
use Rattle.sqlite_sql.specs.Program.{IsProgramAnswer}
use Rattle.sqlite_sql.specs.Query.{Query}
use Rattle.sqlite_schema.specs.declared.schema.Schema.{Schema}
use Rattle.sqlite_schema.specs.declared.schema.Table.{Table}
use Rattle.sqlite_schema.specs.declared.command.Returning.{Returning}
use Rattle.sqlite.specs.Command.TheVariants.{Select}
use Rattle.sqlite.specs.declared.error.Error.{Error}
use Rattle.sqlite.specs.Clock.{timed}
use Rattle.sqlite.specs.Effect.{Database, IsDatabase}
use Rattle.sqlite.specs.Listing.{understood}
use Rattle.sqlite.specs.State.{State, KeepsCommit, IsUnchanged, IsRolledBack, IsNotRun, FailsToQuery, FailsToShow, IsTooLate, Shown, ShowsRows}
use Rattle.sqlite.proofs.Callers.{IsPlain, reads_as}
use Rattle.registry_rows.specs.Rows.{HasRowids}
use Rattle.registry_rows.specs.Statements.{MeansQuery, Selects, scan, first_of}
use Rattle.registry_rows.specs.Ready.{IsReady, Reads}
use Rattle.registry_rows.proofs.SelectFacts.{selects, selects_first}

shown_open : (sql : List ℕ) (params : Row) (old new : State) (rows : List Row) → Shown sql params old new rows → IsTrue old.is_open
unfolding Shown
shown_open sql params old new rows h = go h.0.returning h.2
  where
    go : (o : Option Returning) → ShowsRows old new sql h.0 (timed params h.0.formats h.1.now) rows o → IsTrue old.is_open
    go None k = k.3.0.was_open
    go (Some what) k = k.1.shown.was_open

-- what was shown left the connection as it was
shown_same : (sql : List ℕ) (params : Row) (old new : State) (rows : List Row) → IsPlain (understood old.now.schema sql) → Shown sql params old new rows → IsUnchanged old new
unfolding Shown
shown_same sql params old new rows plain h =
    let none = (subst IsPlain h.1.is plain).0 in
    (subst (ShowsRows old new sql h.0 (timed params h.0.formats h.1.now) rows) none h.2).3

pub ready_same : (schema : Schema) (old new : State) → new.now ≡ old.now → IsReady schema old → IsReady schema new
ready_same schema old new same ready = record {
  schema_is = ap (λ (d : Database). d.schema) same ∙ ready.schema_is;
  sound = subst IsDatabase (sym same) ready.sound;
  rowids = subst (λ (d : Database). AllByRecursion (λ (t : Table). HasRowids (d.trees t.tree)) schema.tables) (sym same) ready.rowids;
}

unchanged_keeps : (old new : State) → IsUnchanged old new → KeepsCommit old new
unchanged_keeps old new h = record { was_open = λ _. h.0.was_open; committed = λ _. h.0.committed_is }

rolled_keeps : (old new : State) → IsRolledBack old new → KeepsCommit old new
rolled_keeps old new h = record { was_open = h.was_open; committed = λ on. (h.undone on).1 }

-- an answered query, whatever it reads, changed nothing
pub query_answers : (schema : Schema) (sql : List ℕ) (q : Query) (names : List (List ℕ)) → MeansQuery schema sql (Select (record { lets = []; body = q }) names)
    → (params : Row) (old new : State) (rows : List Row) → (IsTrue old.is_open → IsReady schema old) → Shown sql params old new rows → Reads schema old new × IsReady schema old × IsProgramAnswer [] q old.now.trees params rows
query_answers schema sql q names means params old new rows form h =
    let was_open = shown_open sql params old new rows h in
    let ready = form was_open in
    let same = shown_same sql params old new rows (subst (λ s. IsPlain (understood s sql)) (sym ready.schema_is) means.0.1) h in
    let read = reads_as sql params old new schema ready.schema_is _ means.0.0 means.0.1 means.1 rows h in (
      record { was_open = was_open; ready = ready_same schema old new same.0.now_is ready; same = same.0.now_is; mode = same.0.mode; committed = unchanged_keeps old new same },
      ready,
      read.answer,
    )

-- one that reads a table saw its rows
pub query_reads : (schema : Schema) (sql : List ℕ) (tree : ℕ) (wanted project : List Term) (order : List (Term × Key)) (names : List (List ℕ)) → MeansQuery schema sql (Select (record { lets = []; body = scan tree wanted project order }) names)
    → (params : Row) (old new : State) (rows : List Row) → (IsTrue old.is_open → IsReady schema old) → Shown sql params old new rows
    → Reads schema old new × IsReady schema old × Selects wanted project order params (old.now.trees tree) rows
query_reads schema sql tree wanted project order names means params old new rows form h =
    let it = query_answers schema sql (scan tree wanted project order) names means params old new rows form h in
    (it.0, it.1, selects tree wanted project order params old.now.trees rows it.2)

-- one that reads the first of them saw these
pub query_starts : (schema : Schema) (sql : List ℕ) (count tree : ℕ) (wanted project : List Term) (order : List (Term × Key)) (names : List (List ℕ))
    → MeansQuery schema sql (Select (record { lets = []; body = first_of count (scan tree wanted project order) }) names)
    → (params : Row) (old new : State) (rows : List Row) → (IsTrue old.is_open → IsReady schema old) → Shown sql params old new rows
    → Reads schema old new × IsReady schema old × (all : List Row) × Selects wanted project order params (old.now.trees tree) all × (rows ≡ take count all)
query_starts schema sql count tree wanted project order names means params old new rows form h =
    let it = query_answers schema sql (first_of count (scan tree wanted project order)) names means params old new rows form h in
    let first = selects_first count tree wanted project order params old.now.trees rows it.2 in
    (it.0, it.1, first.0, first.1, first.2)

not_run_keeps : (old new : State) (sql : List ℕ) (params : Row) (e : Error) → IsNotRun old new sql params e → KeepsCommit old new
unfolding IsNotRun
not_run_keeps old new sql params e (inl h) = unchanged_keeps old new h.1
not_run_keeps old new sql params e (inr h) = rolled_keeps old new h.3

-- a query that fails commits nothing
pub failed_keeps : (sql : List ℕ) (params : Row) (old new : State) (e : Error) → FailsToQuery sql params old new e ⊎ IsTooLate sql params old new e → KeepsCommit old new
unfolding FailsToQuery
failed_keeps sql params old new e (inl (inl h)) = not_run_keeps old new sql params e h
failed_keeps sql params old new e (inl (inr h)) = go h.0.returning h.2
  where
    go : (o : Option Returning) → FailsToShow old new sql h.0 (timed params h.0.formats h.1.now) e o → KeepsCommit old new
    go None k = unchanged_keeps old new k.3
    go (Some what) (inl k) = unchanged_keeps old new k.1
    go (Some what) (inr k) = rolled_keeps old new k.3
failed_keeps sql params old new e (inr h) = unchanged_keeps old new h.5

-- what holds holds of each answer
pub on_ok : {R E : Type 0} (r : Result R E) (P : Type 0) → P → OnOk r P
on_ok (Ok x) P h = h
on_ok (Err e) P h = tt
