-- What a connection has that a registry takes over, and how it is handed back.
use Rattle.std.specs.Prelude.{◌≡◌, false, IsTrue, OnErr, OnOk, Result}
use Rattle.std.specs.List.{AllByRecursion}
use Rattle.sqlite.specs.Closing.{files_left}
use Rattle.sqlite.specs.Files.{IsClosed, file_state}
use Rattle.sqlite.specs.State.{State as Shown, HasCleanDisk, Survives}
use Rattle.sqlite_disk.specs.declared.Disk as disk
use Rattle.sqlite_disk.specs.declared.Files.{Files}
use Rattle.sqlite_store.specs.FileStore.{files}
use Rattle.sqlite_store.specs.declared.store.FileStore.{FileStore}
use Rattle.sqlite_trees.specs.Tree.{Trees}
use Rattle.registry_rows.specs.Ready.{Leaves}
use Rattle.registry_rows.specs.Rows.{HasRowids}
use Rattle.registry_tables.specs.Contents.{Contents, contents}
use Rattle.registry_tables.specs.Effects.{stored}
use Rattle.registry_tables.specs.Schema.{schema}
use Rattle.registry_desk.specs.Caches.{IsCached}
use Rattle.registry_desk.specs.Opened.{IsLeftOf, IsMadeOf}
use Rattle.registry_desk.specs.Resting.{IsAsWritten, Rests}
use Rattle.registry_desk.specs.declared.cache.Caches.{Caches}
use Rattle.registry_desk.specs.declared.open.Unopened.{Unopened}
use Rattle.registry_desk.specs.declared.open.Unopened.TheVariants as unopened

-- in each of its tables the rowids rise, as in every table that SQLite opened or made, as long as
-- the disk is clean and the connection open
abbrev pub CanBeAdopted : Shown → Type 0
CanBeAdopted s = HasCleanDisk s → IsTrue s.is_open → AllByRecursion (λ t. HasRowids (s.now.trees t.tree)) s.now.schema.tables

-- what it sees was committed
abbrev pub IsSettled : Shown → Type 0
IsSettled s = IsTrue s.is_open → s.now ≡ s.committed

module _ (old new : Shown) where
  -- a registry is made only of an open connection, and holds what is made of what that saw
  abbrev pub IsMade : Type 0
  IsMade = HasCleanDisk new → HasCleanDisk old × IsTrue old.is_open × IsMadeOf old.now (stored new)

  -- A crash leaves what it could have left before or, of an open connection alone, what that saw
  -- or, where there was no table, a fresh registry. No fault is forgotten, a limit of steps stays,
  -- and so do tests of what is read
  abbrev pub SurvivesAdoption : Type 0
  SurvivesAdoption = Survives old new (λ db. IsTrue old.is_open × IsLeftOf old.now db)

  -- where it is open, it was, and it sees what was committed then, which still is
  abbrev pub IsUndone : Type 0
  IsUndone = HasCleanDisk new → IsTrue new.is_open → IsTrue old.is_open × (new.now ≡ old.committed) × (new.committed ≡ old.committed)

  -- What is made of the tables of a connection by one commit. `IsGiven` is said of what it holds
  -- then, and `IsLeft` of what a crash may leave, beside what it could have left
  pub record Settles {A E : Type 0} (IsGiven : Contents → Type 0) (IsLeft : Trees → Type 0) (result : Result A E) : Type 0 where
    pub rests : OnOk result (Rests new)
    pub made : HasCleanDisk new → OnOk result (IsTrue old.is_open × IsTrue new.is_open × IsGiven (stored new))
    pub idle : new.in_transaction ≡ false
    pub undone : OnErr result IsUndone
    pub survives : Survives old new (λ db. IsTrue old.is_open × IsLeft db)

  -- the same inside the transaction, before the commit
  pub record MakesInside (IsGiven : Contents → Type 0) (IsLeft : Trees → Type 0) : Type 0 where
    pub was_open : IsTrue old.is_open
    pub leaves : Leaves schema contents (stored new) new
    pub written : IsAsWritten (stored new)
    pub given : IsGiven (stored new)
    pub left : IsLeft new.now.trees

  -- where it is open, a crash leaves what was committed before, and nothing else
  abbrev pub LeavesCommitted : Type 0
  LeavesCommitted = HasCleanDisk new → IsTrue new.is_open → (db : Trees) → new.may_leave db → db ≡ old.committed.trees

  -- where it is open, it was, and it sees what it saw, inside a transaction or not as before
  abbrev pub IsHandedBack : Type 0
  IsHandedBack = (new.in_transaction ≡ old.in_transaction) × (HasCleanDisk new → IsTrue new.is_open → IsTrue old.is_open × (new.now ≡ old.now))

  -- a connection that was taken over, with the caches of the registry that it is now
  pub record IsAdopted (caches : Caches) : Type 0 where
    pub cached : IsCached new caches
    pub made : IsMade
    pub served : HasCleanDisk new → IsTrue new.is_open
    pub carried : SurvivesAdoption

  -- one that wasn't
  pub record IsGivenBack : Type 0 where
    pub back : IsHandedBack
    pub again : new.in_transaction ≡ false → CanBeAdopted new
    pub left : SurvivesAdoption
    pub alone : LeavesCommitted

-- a database that is left after an open that failed can be adopted
module _ {D : Type 0} {g : disk.Ghosts D} where
  abbrev pub CanBeAdoptedAgain : Unopened D g → Type 0
  CanBeAdoptedAgain (unopened.Files rest) = Unit {0}
  CanBeAdoptedAgain (unopened.Database conn) = CanBeAdopted (file_state conn)

-- The files of what is left after an open that failed. Those of a database are its store's after a
-- close, and a crash then leaves nothing that it couldn't have left before
module _ {D : Type 0} {g : disk.Ghosts D} where
  abbrev pub AreFilesOf : Unopened D g → Files D → Type 0
  AreFilesOf (unopened.Files rest) given = (given.log, given.db) ≡ files_left rest
  AreFilesOf (unopened.Database conn) given = (last : FileStore D g) × (files last ≡ (given.log, given.db)) × IsClosed conn last
