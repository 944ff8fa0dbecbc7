-- Statements that keep the tables ready.
use Rattle.std.proofs.Common.{◌≡◌, ◌==◌, ◌/◌, ◌<◌, ◌⊎◌, inl, inr, ℕ, ℤ, zero, List, [], ◌∷◌, ◌++◌, length, drop, slice_get, true, false, Some, Ok, Err, Result, OnOk, refl, sym, ap, subst, ◌∙◌, arith}
use Rattle.std.specs.Prelude.{bytes_eq, Option}
use Rattle.std.specs.List.{AllByRecursion}
use Rattle.std.proofs.lemmas.Bool.{cases_Bool, eqb-true}
use Rattle.std.proofs.Math.Nat.{div_self}
use Rattle.std.proofs.Math.Seq.{take-length}
use Rattle.sqlite.specs.declared.types.Value.TheVariants.{Null, Int}
use Rattle.sqlite_value.specs.Order.{Row}
use Rattle.sqlite_trees.specs.Tree.{Trees, rowid}
use Rattle.sqlite_sql.specs.Term.{Term, lit, col, eval_all}
use Rattle.sqlite.specs.Source.TheVariants.{Values}
use Rattle.sqlite.specs.Command.TheVariants.{Insert, Delete, Update}
use Rattle.sqlite_schema.specs.declared.schema.Schema.{Schema}
use Rattle.sqlite_schema.specs.declared.schema.Table.{Table}
use Rattle.sqlite_rules.specs.Cast.{cast_row}
use Rattle.sqlite_rules.specs.Lists.{Has}
use Rattle.sqlite_rules.proofs.ListLemmas.{all_has, all_from, has_got}
use Rattle.sqlite.specs.Effect.{Database, value_rows}
use Rattle.sqlite.specs.declared.error.Error.{Error}
use Rattle.sqlite.specs.State.{State, HasCleanDisk, Executes}
use Rattle.registry_rows.specs.Columns.{are_exact, AreOf}
use Rattle.registry_rows.specs.Tables.{keyed_table}
use Rattle.registry_rows.specs.Rows.{HasRowids}
use Rattle.registry_rows.specs.Statements.{Means, IsUncascaded, ignores_updates, KeepsOthers, row_after, Adds, Deletes, Updates, scan, is_wanted, shown_by}
use Rattle.registry_rows.specs.KeyKinds.{KeyKind}
use Rattle.registry_rows.specs.Ready.{IsReady, Ready, Executed}
use Rattle.registry_rows.specs.WriteLaws.{PutsColumns}
use Rattle.registry_rows.proofs.WriteFacts.{written_as, written_sound}
use Rattle.registry_rows.proofs.InsertFacts.{inserts}
use Rattle.registry_rows.proofs.DeleteFacts.{deletes}
use Rattle.registry_rows.proofs.UpdateFacts.{updates}
use Rattle.registry_rows.proofs.UpsertFacts.{Takes, either_kept, upserted}

-- an answered call ran the statement on tables that were ready, and the transaction goes on
pub inside : (Q : Type 0) (schema : Schema) (sql : List ℕ) (params : Row) (old new : State) (r : Result ℕ Error) → Ready schema old → Executed sql params old new r → HasCleanDisk new
    → ((count : ℕ) → IsReady schema old → Executes sql params old new (Ok count) → new.in_transaction ≡ true → Q) → OnOk r Q
inside Q schema sql params old new (Err e) ready call clean then_ = tt
inside Q schema sql params old new (Ok count) ready call clean then_ = elim (cases_Bool old.in_transaction) [
  | inl on ↦ let it = call.runs clean on in then_ count (ready (omega (arith, call.survives.clean)) it.1.was_open) it.0 it.1.mode
  | inr off ↦ absurd (let e = (call.ended off).1 in cc)
]

-- what follows of an answer
pub ok_then : {R E A B : Type 0} (r : Result R E) → (A → B) → OnOk r A → OnOk r B
ok_then (Ok x) f h = f h
ok_then (Err e) f h = tt

pub rowids_after : (schema : Schema) (tree : ℕ) (old new : Trees) → KeepsOthers schema tree old new → (HasRowids (old tree) → HasRowids (new tree)) → AllByRecursion (λ (t : Table). HasRowids (old t.tree)) schema.tables
    → AllByRecursion (λ (t : Table). HasRowids (new t.tree)) schema.tables
rowids_after schema tree old new others kept was = all_from _ schema.tables (λ t h. each t h (all_has _ schema.tables t was h) (all_has _ schema.tables t others h))
  where
    each : (t : Table) → Has schema.tables t → HasRowids (old t.tree) → ((tree == t.tree) ≡ false → new t.tree ≡ old t.tree) → HasRowids (new t.tree)
    each t h before same = elim (cases_Bool (tree == t.tree)) [
      | inl here ↦ subst (λ n. HasRowids (new n)) (eqb-true tree t.tree here) (kept (subst (λ n. HasRowids (old n)) (sym (eqb-true tree t.tree here)) before))
      | inr other ↦ subst HasRowids (sym (same other)) before
    ]

-- a row of VALUES
pub one_row : (params : Row) (t : Term) (ts : List Term) → value_rows params (length (t ∷ ts)) (length (t ∷ ts) / length (t ∷ ts)) (t ∷ ts) ≡ eval_all (t ∷ ts) (params ∷ []) ∷ []
one_row params t ts = let some : zero < length (t ∷ ts) = omega arith in rw (div_self some) (ap (λ l. eval_all l (params ∷ []) ∷ []) (take-length (t ∷ ts)))

module _ (schema : Schema) (place : ℕ) (table : Table) (found : slice_get schema.tables place ≡ Some table) (sql : List ℕ) (params : Row) (old new : State) (count : ℕ) (ready : IsReady schema old) (ran : Executes sql params old new (Ok count)) where
  pub insert_ready : (primary : List ℕ) → table ≡ keyed_table table.name table.tree table.columns primary table.references → (cells : List Term) → Means schema sql (Insert place (Values (lit Null ∷ cells) (length (lit Null ∷ cells))))
      → are_exact table.columns (eval_all cells (params ∷ [])) ≡ true → IsReady schema new × ((id : ℤ) × Adds schema table.tree (Int id ∷ eval_all cells (params ∷ [])) old.now.trees new.now.trees)
  insert_ready primary shape cells means exact =
      let it = inserts schema place table.name table.tree table.columns primary table.references (found ∙ ap (λ (t : Table). Some t) shape) sql (lit Null ∷ cells) (length (lit Null ∷ cells)) params
      (eval_all cells (params ∷ [])) old new ready.schema_is means.0 means.1 (one_row params (lit Null) cells) exact count ran in (
        record {
          schema_is = it.0;
          sound = written_sound schema place sql params old new ready.schema_is _ means.0 means.1 count ran refl;
          rowids = rowids_after schema table.tree old.now.trees new.now.trees it.1.1.others it.1.1.rowids ready.rowids;
        },
        it.1,
      )

  own_rowids : HasRowids (old.now.trees table.tree)
  own_rowids = all_has (λ (t : Table). HasRowids (old.now.trees t.tree)) schema.tables table ready.rowids (has_got schema.tables place table found)

  pub delete_ready : IsUncascaded schema table → (wanted : List Term) → Means schema sql (Delete place (record { lets = []; body = scan table.tree wanted (col 1 0 ∷ []) [] }))
      → IsReady schema new × Deletes schema table.tree wanted params old.now.trees new.now.trees
  delete_ready quiet wanted means =
      let it = deletes schema place table found quiet sql wanted params old new ready.schema_is means.0 means.1 own_rowids count ran in (
        record {
          schema_is = it.0;
          sound = written_sound schema place sql params old new ready.schema_is _ means.0 means.1 count ran refl;
          rowids = rowids_after schema table.tree old.now.trees new.now.trees it.1.others it.1.rowids ready.rowids;
        },
        it.1,
      )

  pub update_ready : ignores_updates schema ≡ true → (wanted more : List Term) (into : Row → Row) → Means schema sql (Update place (record { lets = []; body = scan table.tree wanted (col 1 0 ∷ more) [] }))
      → ((r : Row) → Has (old.now.trees table.tree) r → is_wanted wanted params r ≡ true → cast_row table (drop 1 (shown_by (col 1 0 ∷ more) params r)) ≡ into r)
      → IsReady schema new × Updates schema table.tree wanted params into old.now.trees new.now.trees
  update_ready quiet wanted more into means maps =
      let it = updates schema place table found quiet sql wanted more params into old new ready.schema_is means.0 means.1 own_rowids maps count ran in (
        record {
          schema_is = it.0;
          sound = written_sound schema place sql params old new ready.schema_is _ means.0 means.1 count ran refl;
          rowids = rowids_after schema table.tree old.now.trees new.now.trees it.1.others it.1.rowids ready.rowids;
        },
        it.1,
      )

  module _ {X : Type 0} {k : KeyKind} {value : Row → X} {cells : List Term} {sets : Option (List (Option ℕ))} (it : PutsColumns k schema place table value sql cells sets params) where
    abbrev values : Row
    values = eval_all cells (params ∷ [])

    abbrev Upserted : List ℕ → ℤ → Trees → Type 0
    Upserted primary id next = Adds schema table.tree (Int id ∷ values) old.now.trees next ⊎ Takes schema table.tree primary (Int id ∷ values) params (λ r. rowid r ∷ row_after sets params (drop 1 r)) old.now.trees next

    -- where the key is of these columns, and not the rowid
    upserts : (primary : List ℕ) → table ≡ keyed_table table.name table.tree table.columns primary table.references → bytes_eq primary (0 ∷ []) ≡ false → ((r : Row) → Has (old.now.trees table.tree) r → AreOf table.columns (drop 1 r))
        → (new.now.schema ≡ schema) × ((id : ℤ) × Upserted primary id new.now.trees)
    upserts primary shape apart typed =
        let w = written_as schema place (keyed_table table.name table.tree table.columns primary table.references) (found ∙ ap (λ (t : Table). Some t) shape) sql params old new ready.schema_is _ it.means.0 it.means.1 count ran refl in
        let made = upserted schema table.name table.tree table.columns primary table.references old.step_limit params sets it.quiet it.updates it.plain apart values it.inserts old.now.trees own_rowids typed
        table.primary (ap (λ (t : Table). t.primary) shape) (lit Null ∷ cells) (length (lit Null ∷ cells)) w.0 (one_row params (lit Null) cells) w.1 in
        (ap (λ (d : Database). d.schema) w.2, (made.0, subst (Upserted primary made.0) (sym (ap (λ (d : Database). d.trees) w.2)) made.1))

    pub upsert_ready : (primary : List ℕ) → table ≡ keyed_table table.name table.tree table.columns primary table.references → bytes_eq primary (0 ∷ []) ≡ false → ((r : Row) → Has (old.now.trees table.tree) r → AreOf table.columns (drop 1 r))
        → IsReady schema new × ((id : ℤ) × Upserted primary id new.now.trees)
    upsert_ready primary shape apart typed =
        let made = upserts primary shape apart typed in
        let kept = either_kept made.1.1 in (
          record {
            schema_is = made.0;
            sound = written_sound schema place sql params old new ready.schema_is _ it.means.0 it.means.1 count ran refl;
            rowids = rowids_after schema table.tree old.now.trees new.now.trees kept.0 kept.1 ready.rowids;
          },
          made.1,
        )
