-- What a call inside a transaction finds, makes and leaves. `old` and `new` are the transaction at
-- its entry and at its exit.
use Rattle.std.specs.Prelude.{◌≡◌, Result, IfOk, IsTrue, OnOk}
use Rattle.sqlite.specs.Effect.{Database}
use Rattle.sqlite.specs.State.{State, HasCleanDisk}
use Rattle.sqlite.specs.declared.transaction.Transaction.{Transaction}
use Rattle.sqlite_trees.specs.declared.store.Store.{Ghosts}
use Rattle.registry_rows.specs.Frames.{Stays}
use Rattle.registry_rows.specs.Ready.{IsReady}
use Rattle.registry_tables.specs.Contents.{Contents}
use Rattle.registry_tables.specs.Effects.{shown, stored}
use Rattle.registry_tables.specs.Schema.{schema}

-- ---- words into which the search of a proof doesn't look, so that it goes from call to call

-- so far the disk has returned what was written
unfoldable pub IsClean : {S : Type 0} → Ghosts S → Transaction S → Type 0
IsClean store tx = HasCleanDisk (shown store tx)

-- the connection is open, as long as the disk is clean
unfoldable pub IsOpen : {S : Type 0} → Ghosts S → Transaction S → Type 0
IsOpen store tx = HasCleanDisk (shown store tx) → IsTrue (shown store tx).is_open

-- it is the same transaction, nothing was committed since, and a crash leaves only what it could
-- have left
unfoldable pub Since : {S : Type 0} → Ghosts S → Transaction S → Transaction S → Type 0
Since store start tx = Stays store start tx

-- the transaction goes on, these are the contents, and the tables are in form if the connection is
-- open
pub record HasInside (s : State) (c : Contents) : Type 0 where
  pub goes_on : IsTrue s.in_transaction
  pub in_form : IsTrue s.is_open → IsReady schema s
  pub holds : stored s ≡ c

-- that is so as long as the disk is clean
unfoldable pub Holds : {S : Type 0} → Ghosts S → Transaction S → Contents → Type 0
Holds store tx c = HasCleanDisk (shown store tx) → HasInside (shown store tx) c

-- it sees this database, trees and schema, as long as the disk is clean
unfoldable pub Sees : {S : Type 0} → Ghosts S → Transaction S → Database → Type 0
Sees store tx db = HasCleanDisk (shown store tx) → (shown store tx).now ≡ db

-- ---- what a call promises

module _ {S R E : Type 0} (store : Ghosts S) (old new : Transaction S) (result : Result R E) where
  -- an answer is determined by what is stored, and changes nothing. Nothing is committed, even by an
  -- error
  pub record Finds (is_told : R → Contents → Type 0) : Type 0 where
    pub since : (start : Transaction S) (c : Contents) → Holds store old c → Since store start old → Since store start new
    pub clean : IsClean store new → IsClean store old
    pub ran : OnOk result (IsOpen store new)
    pub holds : (c : Contents) → Holds store old c → OnOk result (Holds store new c)
    pub sees : (c : Contents) (db : Database) → Holds store old c → Sees store old db → OnOk result (Sees store new db)
    pub told : (c : Contents) → Holds store old c → IsClean store new → IfOk result (λ answer. is_told answer c)

  -- the same of an answer that may need no statement
  pub record Knows (is_told : R → Contents → Type 0) : Type 0 where
    pub since : (start : Transaction S) (c : Contents) → Holds store old c → Since store start old → Since store start new
    pub clean : IsClean store new → IsClean store old
    pub ran : IsOpen store old → OnOk result (IsOpen store new)
    pub holds : (c : Contents) → Holds store old c → OnOk result (Holds store new c)
    pub sees : (c : Contents) (db : Database) → Holds store old c → Sees store old db → OnOk result (Sees store new db)
    pub told : (c : Contents) → Holds store old c → IsClean store new → IfOk result (λ answer. is_told answer c)

  -- what is stored is changed by `f`, and an answer says what was stored. Nothing is committed, even by
  -- an error
  pub record Makes (is_told : R → Contents → Type 0) (f : Contents → Contents) : Type 0 where
    pub since : (start : Transaction S) (c : Contents) → Holds store old c → Since store start old → Since store start new
    pub clean : IsClean store new → IsClean store old
    pub ran : OnOk result (IsOpen store new)
    pub holds : (c : Contents) → Holds store old c → OnOk result (Holds store new (f c))
    pub told : (c : Contents) → Holds store old c → IsClean store new → IfOk result (λ answer. is_told answer c)

  -- the same of a call that may need no statement
  pub record MayMake (is_told : R → Contents → Type 0) (f : Contents → Contents) : Type 0 where
    pub since : (start : Transaction S) (c : Contents) → Holds store old c → Since store start old → Since store start new
    pub clean : IsClean store new → IsClean store old
    pub ran : IsOpen store old → OnOk result (IsOpen store new)
    pub holds : (c : Contents) → Holds store old c → OnOk result (Holds store new (f c))
    pub told : (c : Contents) → Holds store old c → IsClean store new → IfOk result (λ answer. is_told answer c)
