-- A connection on which a walk may begin, and a transaction in which calls go on.
use Rattle.std.specs.Prelude.{◌≡◌, IsTrue}
use Rattle.sqlite.specs.State.{State, HasCleanDisk}
use Rattle.sqlite.specs.declared.transaction.Transaction.{Transaction}
use Rattle.sqlite_trees.specs.declared.store.Store.{Ghosts}
use Rattle.registry_rows.specs.Ready.{Ready}
use Rattle.registry_tables.specs.Effects.{stored_in}
use Rattle.registry_tables.specs.Inside.{Holds}
use Rattle.registry_tables.specs.Schema.{schema}

-- it is open, its tables are in form, and it sees what was committed
pub record AwaitsWalk (s : State) : Type 0 where
  pub in_form : Ready schema s
  pub unshut : HasCleanDisk s → IsTrue s.is_open
  pub settled : HasCleanDisk s → s.now ≡ s.committed

-- the transaction goes on, and its tables are in form, as long as the disk is clean
abbrev pub IsWhole : {S : Type 0} → Ghosts S → Transaction S → Type 0
IsWhole store tx = Holds store tx (stored_in store tx)
