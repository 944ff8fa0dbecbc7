-- What one statement, or a call over other tables, finds and makes. `old` and `new` are the
-- transaction at its entry and at its exit.
use Rattle.std.specs.Prelude.{◌≡◌, Result, IfOk, IsTrue, OnOk}
use Rattle.sqlite.specs.Held.{state}
use Rattle.sqlite.specs.State.{State as Shown, HasCleanDisk, KeepsCommit}
use Rattle.sqlite.specs.declared.transaction.Transaction.{Transaction}
use Rattle.sqlite_trees.specs.declared.store.Store.{Ghosts}
use Rattle.registry_rules.specs.State.{State}
use Rattle.registry_rows.specs.Ready.{IsReady, Ready, Leaves, Reads}
use Rattle.registry_rows.specs.Tables.{no_tables}
use Rattle.registry_tables.specs.Schema.{schema}
use Rattle.registry_tables.specs.Contents.{Contents, contents, registry_of}

-- nothing has changed, whether or not a statement has run
pub record IsAsBefore (old new : Shown) : Type 0 where
  pub same : new.now ≡ old.now
  pub ready : IsReady schema old → IsReady schema new
  pub mode : new.in_transaction ≡ old.in_transaction
  pub committed : KeepsCommit old new

-- all that a connection sees in the tables
abbrev pub stored : Shown → Contents
stored s = contents s.now.trees

-- the state of the registry that it sees
abbrev pub registry_in : Shown → State
registry_in s = registry_of (stored s)

module _ {S : Type 0} (store : Ghosts S) where
  -- what the transaction's connection shows
  abbrev pub shown : Transaction S → Shown
  shown tx = state store tx.conn.now

  -- what the transaction sees in the tables
  abbrev pub stored_in : Transaction S → Contents
  stored_in tx = stored (shown tx)

  -- the tables are in form: the schema is ours, the database obeys it, and rowids rise. That is so
  -- as long as the disk is clean and the connection open
  abbrev pub InForm : Transaction S → Type 0
  InForm tx = Ready schema (shown tx)

  -- the database has no table yet, as long as the disk is clean and the connection open
  abbrev pub HasNoTables : Transaction S → Type 0
  HasNoTables tx = Ready no_tables (shown tx)

  -- a statement has run in the transaction: it goes on, and the tables are in form, as long as the
  -- disk is clean
  abbrev pub IsUnderWay : Transaction S → Type 0
  IsUnderWay tx = HasCleanDisk (shown tx) → Leaves schema contents (stored_in tx) (shown tx)

  module _ {R E : Type 0} (old new : Transaction S) (result : Result R E) where
    -- an answer leaves what is stored changed by f, the tables in form, and the transaction going
    -- on
    abbrev pub Makes : (Contents → Contents) → Type 0
    Makes f = HasCleanDisk (shown new) → OnOk result (Leaves schema contents (f (stored_in old)) (shown new))

    -- there is an answer only where this holds of what is stored
    abbrev pub OnlyWhere : (Contents → Type 0) → Type 0
    OnlyWhere is_so = HasCleanDisk (shown new) → OnOk result (is_so (stored_in old))

    -- an answer is determined by what is stored, and leaves everything as it was
    abbrev pub Loads : (R → Contents → Type 0) → Type 0
    Loads is_told = HasCleanDisk (shown new) → IfOk result (λ answer. Reads schema (shown old) (shown new) × is_told answer (stored_in old))

    -- the same of a database without tables
    abbrev pub TellsNone : (R → Type 0) → Type 0
    TellsNone is_told = HasCleanDisk (shown new) → IfOk result (λ answer. Reads no_tables (shown old) (shown new) × is_told answer)

  -- the transaction wasn't ended
  abbrev pub GoesOn : Transaction S → Type 0
  GoesOn tx = IsTrue (shown tx).in_transaction
