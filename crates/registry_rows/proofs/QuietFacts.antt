-- Statements inside a transaction commit nothing, one after another.
use Rattle.std.proofs.Common.{◌≡◌, inl, inr, ℕ, List, Option, None, Some, false, Result, Ok, Err, IsTrue, OnOk, refl, sym, subst, arith, ◌∙◌}
use Rattle.std.proofs.lemmas.Bool.{cases_Bool}
use Rattle.sqlite_value.specs.Order.{Row}
use Rattle.sqlite_trees.specs.declared.store.Store.{Ghosts}
use Rattle.sqlite_schema.specs.declared.command.Returning.{Returning}
use Rattle.sqlite.specs.declared.error.Error.{Error}
use Rattle.sqlite.specs.declared.transaction.Transaction.{Transaction}
use Rattle.sqlite.specs.Clock.{timed}
use Rattle.sqlite.specs.Held.{Held, state}
use Rattle.sqlite.specs.State.{State, HasCleanDisk, KeepsCommit, ExecutesInside, Shown, ShowsRows}
use Rattle.sqlite.proofs.InsideLemmas.{unchanged_keeps, inside_keeps, keeps_then}
use Rattle.sqlite.proofs.StateLemmas.{survives_then}
use Rattle.sqlite_schema.specs.declared.schema.Schema.{Schema}
use Rattle.registry_rows.specs.Frames.{Stays}
use Rattle.registry_rows.specs.Ready.{Queried, Reads}

module _ {S : Type 0} (store : Ghosts S) where
  -- a statement, by what `execute` ensures
  pub executed_keeps : (sql : List ℕ) (params : Row) (a b : Held S) (r : Result ℕ Error) (e : Error) → ((state store a).in_transaction ≡ false → (r ≡ Err e) × (b ≡ a))
      → (HasCleanDisk (state store b) → IsTrue (state store a).in_transaction → ExecutesInside 0 sql params (state store a) (state store b) r)
      → HasCleanDisk (state store b) → KeepsCommit (state store a) (state store b)
  executed_keeps sql params a b r e ended runs clean = elim (cases_Bool (state store a).in_transaction) [
    | inl on ↦ inside_keeps (state store a) (state store b) 0 false sql params r (runs clean on)
    | inr off ↦ subst (λ h. KeepsCommit (state store a) (state store h)) (sym (ended off).1) (record { was_open = λ up. up; committed = λ up. refl })
  ]

  -- one call after another
  pub stays_then : (a b c : Transaction S) → Stays store a b → Stays store b c → Stays store a c
  stays_then a b c one two = record {
    same_reference = two.same_reference ∙ one.same_reference;
    committed = λ clean. keeps_then (state store a.conn.now) (state store b.conn.now) (state store c.conn.now) (one.committed (omega (arith, two.survives.clean, clean))) (two.committed clean);
    survives = survives_then (state store a.conn.now) (state store b.conn.now) (state store c.conn.now) (λ _. ⊥) (λ _. ⊥) (λ _. ⊥) (λ _ _ n. n) (λ _ _ n. n) one.survives two.survives;
  }

-- an answered query, whatever its text
pub shown_keeps : (sql : List ℕ) (params : Row) (a b : State) (rows : List Row) → IsTrue a.in_transaction → Shown sql params a b rows → KeepsCommit a b × IsTrue b.in_transaction
unfolding Shown
shown_keeps sql params a b rows on h = go h.0.returning h.2
  where
    go : (o : Option Returning) → ShowsRows a b sql h.0 (timed params h.0.formats h.1.now) rows o → KeepsCommit a b × IsTrue b.in_transaction
    go None k = (unchanged_keeps a b (inl k.3), subst IsTrue (sym k.3.0.mode) on)
    go (Some what) k = (record { was_open = λ _. k.1.shown.was_open; committed = λ _. rw on at k.1.shown.committed_is }, subst IsTrue (sym k.1.shown.mode) on)

-- what follows of each answer
pub on_answer : {R E : Type 0} (r : Result R E) {P Q : Type 0} → (P → Q) → OnOk r P → OnOk r Q
on_answer (Ok x) f h = f h
on_answer (Err e) f h = tt

-- a query that was answered, and read the tables
pub read_stays : {S : Type 0} (store : Ghosts S) (sql : List ℕ) (params : Row) (schema : Schema) (a b : Transaction S) (found : List Row) → b.conn.ghost_name ≡ a.conn.ghost_name
    → Queried sql params (state store a.conn.now) (state store b.conn.now) found → (HasCleanDisk (state store b.conn.now) → Reads schema (state store a.conn.now) (state store b.conn.now)) → Stays store a b
read_stays store sql params schema a b found same call reads = record { same_reference = same; committed = λ clean. (reads clean).committed; survives = call.survives }

-- a query after a query
pub reads_then : (s : Schema) (a b c : State) → Reads s a b → Reads s b c → Reads s a c
reads_then s a b c one two = record { was_open = one.was_open; ready = two.ready; same = two.same ∙ one.same; mode = two.mode ∙ one.mode; committed = keeps_then a b c one.committed two.committed }
