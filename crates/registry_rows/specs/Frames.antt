-- What each call inside a transaction leaves alone, and what it asks and gets.
use Rattle.std.specs.Prelude.{◌≡◌, ℕ, List, [], IsTrue, Ok, false}
use Rattle.sqlite_value.specs.Order.{Row}
use Rattle.sqlite_trees.specs.declared.store.Store.{Ghosts}
use Rattle.sqlite.specs.Held.{state}
use Rattle.sqlite.specs.State.{State, HasCleanDisk, KeepsCommit, KeepsCounts, Shows, Survives}
use Rattle.sqlite.specs.Steps.{FailsToCommit}
use Rattle.sqlite.specs.declared.error.Error.{Error}
use Rattle.sqlite.specs.declared.transaction.Transaction.{Transaction}
use Rattle.registry_names.specs.declared.stop.Fault.{Fault}
use Rattle.registry_rows.specs.Faults.{as_fault}
use Rattle.registry_rows.specs.Ready.{Executed}

-- What holds of a call, whatever it answers. `old` and `new` are the transaction at its entry and
-- at its exit
pub record Stays {S : Type 0} (store : Ghosts S) (old new : Transaction S) : Type 0 where
  -- it is the transaction of the same connection
  pub same_reference : new.conn.ghost_name ≡ old.conn.ghost_name
  -- what was committed stays so
  pub committed : HasCleanDisk (state store new.conn.now) → KeepsCommit (state store old.conn.now) (state store new.conn.now)
  -- a crash leaves only what it could have left at the entry
  pub survives : Survives (state store old.conn.now) (state store new.conn.now) (λ _. ⊥)

-- a statement that writes was run with these parameters
abbrev pub Wrote : List ℕ → Row → State → State → Type 0
Wrote sql params old new = (n : ℕ) × Executed sql params old new (Ok n)

-- what the transaction had is committed, and it has ended
abbrev pub IsCommitted : State → State → Type 0
IsCommitted old new = IsTrue old.in_transaction × Shows old new old.now old.now false × KeepsCounts old new × (new.marks ≡ [])

-- it could not be committed, and this fault is returned
abbrev pub CommitFails : State → State → Fault → Type 0
CommitFails old new fault = (e : Error) × FailsToCommit old new e × (fault ≡ as_fault e)
