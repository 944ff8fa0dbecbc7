-- What an open gives of the database that it finds, and what a crash leaves of that.
use Rattle.std.specs.Prelude.{◌≡◌, ◌⊎◌, ◌++◌, [], false, true, None, Some, IsTrue, codes, pos}
use Rattle.sqlite.specs.Effect.{Database}
use Rattle.sqlite.specs.Files.{AreFoundIn, HoldsDatabase, IsCleanLeft, IsFullLeft, IsNothing, LeavesFiles, faults_left, faults_of, file_state, image_of}
use Rattle.sqlite.specs.State.{State as Shown, HasCleanDisk}
use Rattle.sqlite.specs.declared.file.Leftover.{Leftover}
use Rattle.sqlite_catalog.specs.Listing.{IsSound}
use Rattle.sqlite_disk.specs.Disk.{MoreFaults}
use Rattle.sqlite_disk.specs.declared.Disk as disk
use Rattle.sqlite_disk.specs.declared.Files.{Files}
use Rattle.sqlite_disk.specs.declared.calls.Calls as calls
use Rattle.sqlite_disk.specs.declared.modelled.Modelled.{Modelled}
use Rattle.sqlite_disk.specs.declared.start.Start.{Ghosts}
use Rattle.sqlite_std_file.specs.File.{IsFresh}
use Rattle.sqlite_schema.specs.declared.schema.Schema.{Schema}
use Rattle.sqlite_std_file.specs.declared.host.Host.{Host}
use Rattle.sqlite_trees.specs.Tree.{Trees}
use Rattle.sqlite_wal.specs.Recovery.{Image}
use Rattle.registry_names.specs.Maps.{at}
use Rattle.registry_names.specs.Texts.{Text}
use Rattle.registry_names.specs.declared.stop.Fault.{Fault}
use Rattle.registry_names.specs.declared.stop.Fault.TheVariants as faults
use Rattle.registry_rows.specs.Tables.{no_tables}
use Rattle.registry_tables.specs.Contents.{Contents, contents}
use Rattle.registry_tables.specs.Effects.{stored}
use Rattle.registry_tables.specs.Fresh.{CountsArchivesAlone, fresh, schema_key, schema_number}
use Rattle.registry_tables.specs.Schema.{schema}
use Rattle.registry_migration.specs.Migration.{MayMigrate, Migrates}
use Rattle.registry_migration.specs.Older.{contents_of, schema_of}
use Rattle.registry_migration.specs.declared.older.Older.{Older}
use Rattle.registry_desk.specs.Resting.{IsAsWritten, IsRegistryOf}
use Rattle.registry_desk.specs.declared.open.Base.{Base}
use Rattle.registry_desk.specs.declared.open.Base.TheVariants as base
use Rattle.registry_desk.specs.declared.open.Unopened.{Unopened}
use Rattle.registry_desk.specs.declared.open.Unopened.TheVariants as unopened

-- the number of our schema is there
abbrev pub IsNumbered : Contents → Type 0
IsNumbered c = at c.meta schema_key ≡ Some (pos schema_number)

-- SQLite counts for the archives alone, and what is stored is as requests write it
pub record IsOurs (c : Contents) : Type 0 where
  pub numbered : IsNumbered c
  pub counted : CountsArchivesAlone c
  pub written : IsAsWritten c

-- c is what a migration makes of a registry of the older schema, and as requests write it
pub record IsMigrated (older : Older) (db : Trees) (c : Contents) : Type 0 where
  pub asked : MayMigrate older (contents_of older db)
  pub made : Migrates older (contents_of older db) c
  pub written : IsAsWritten c

-- the database has the tables of a registry, and they hold such a c
pub record LeavesMigrated (older : Older) (db left : Trees) : Type 0 where
  pub held : Contents
  pub migrated : IsMigrated older db held
  pub is : IsRegistryOf left held

-- ---- by what tables a database has

-- their schema
abbrev pub schema_as : Base → Schema
schema_as base.Empty = no_tables
schema_as base.Ours = schema
schema_as (base.Older older) = schema_of older

-- what they give
abbrev pub GivesAs : Base → Trees → Contents → Type 0
GivesAs base.Empty db c = c ≡ fresh
GivesAs base.Ours db c = IsOurs (contents db) × (c ≡ contents db)
GivesAs (base.Older older) db c = IsMigrated older db c

-- what a crash may leave, beside what was there
abbrev pub LeavesAs : Base → Trees → Trees → Type 0
LeavesAs base.Empty db left = IsRegistryOf left fresh
LeavesAs base.Ours db left = left ≡ db
LeavesAs (base.Older older) db left = LeavesMigrated older db left

-- ---- what a database gives

-- the tables of a registry give what they hold, a database without tables a fresh registry, and
-- tables of an older schema what is made of them. Any other database gives nothing
abbrev pub IsMadeOf : Database → Contents → Type 0
IsMadeOf db c = ((db.schema ≡ schema) × IsOurs (contents db.trees) × (c ≡ contents db.trees)) ⊎ (((db.schema ≡ no_tables) × (c ≡ fresh)) ⊎ ((older : Older) × (db.schema ≡ schema_of older) × IsMigrated older db.trees c))

-- a crash leaves the database as it was, or, where it had no tables, a fresh registry, or, where
-- its tables were those of an older schema, what is made of them
abbrev pub IsLeftOf : Database → Trees → Type 0
IsLeftOf db left = (left ≡ db.trees) ⊎ (((db.schema ≡ no_tables) × IsRegistryOf left fresh) ⊎ ((older : Older) × (db.schema ≡ schema_of older) × LeavesMigrated older db.trees left))

-- ---- the same of the trees that files held, which list their schema

abbrev pub GivesFound : Trees → Contents → Type 0
GivesFound db c = (IsSound schema db × IsOurs (contents db) × (c ≡ contents db)) ⊎ ((IsSound no_tables db × (c ≡ fresh)) ⊎ ((older : Older) × IsSound (schema_of older) db × IsMigrated older db c))

abbrev pub LeavesFound : Trees → Trees → Type 0
LeavesFound db left = (left ≡ db) ⊎ ((IsSound no_tables db × IsRegistryOf left fresh) ⊎ ((older : Older) × IsSound (schema_of older) db × LeavesMigrated older db left))

-- ---- what is promised of an open of files that held this

module _ (image : Image) where
  module _ (s : Shown) where
    -- what was found in the files gives what the registry holds
    abbrev pub HoldsFound : Type 0
    HoldsFound = HasCleanDisk s → (db : Trees) × AreFoundIn image db × GivesFound db (stored s)

    -- each database that the files hold does
    abbrev pub HoldsEach : Type 0
    HoldsEach = HasCleanDisk s → (db : Trees) → HoldsDatabase image db → GivesFound db (stored s)

    -- an empty database file, as one that wasn't there, becomes a fresh registry
    abbrev pub IsFreshIfEmpty : Type 0
    IsFreshIfEmpty = HasCleanDisk s → image.db ≡ [] → stored s ≡ fresh

-- After an open of these files that failed, a crash leaves what it could have left before. Where a
-- database was opened, it was each one that the files hold. As long as the connection is open, a
-- crash leaves that and nothing else. Where a fault of the disk has shut it, a crash leaves that
-- or, where no table was found, those of a fresh registry, and, where tables of an older schema
-- were, what is made of them
module _ {D : Type 0} {g : disk.Ghosts D} (files : Files D) where
  abbrev pub LeavesAtMost : Unopened D g → Type 0
  LeavesAtMost (unopened.Files rest) = IsCleanLeft rest → LeavesFiles files rest
  LeavesAtMost (unopened.Database conn) =
      HasCleanDisk (file_state conn) → (db : Trees) × AreFoundIn (image_of g files) db × ((held : Trees) → HoldsDatabase (image_of g files) held → db ≡ held)
      × ((later : Trees) → (file_state conn).may_leave later → LeavesFound db later) × (IsTrue (file_state conn).is_open → (later : Trees) → (file_state conn).may_leave later → later ≡ db)

-- files that were opened just now: nothing has happened to them since
module _ {S : Type 0} {c : calls.Ghosts Host} where
  abbrev pub AreFresh : {start : Ghosts S} → Files (Modelled Host S c start) → Type 0
  AreFresh files = IsFresh true files.log × IsFresh false files.db

-- what is left of files that an open found itself, and of which this holds
module _ {D : Type 0} {g : disk.Ghosts D} (IsFound : Files D → Type 0) where
  abbrev pub LeavesAtMostOf : Unopened D g → Type 0
  LeavesAtMostOf rest = (files : Files D) × IsFound files × LeavesAtMost files rest

-- what is read later is tested against a digest of what was written
abbrev pub IsGuarded : Shown → Type 0
IsGuarded s = HasCleanDisk s → s.IsShielded

-- no query is cut short
abbrev pub IsUnlimited : Shown → Type 0
IsUnlimited s = s.step_limit ≡ None

-- the files hold something that isn't a database
abbrev pub HoldNone : Image → Type 0
HoldNone image = ¬ (((db : Trees) × HoldsDatabase image db) ⊎ IsNothing image)

-- why files aren't opened: memory was short; or they hold no database, or failed meanwhile, or are
-- at their limit
module _ {D : Type 0} {g : disk.Ghosts D} (files : Files D) where
  abbrev pub FailsToConnect : Leftover D g → Fault → Type 0
  FailsToConnect rest fault = (fault ≡ faults.Memory)
      ⊎ ((fault ≡ faults.Database) × (HoldNone (image_of g files) ⊎ (MoreFaults (faults_of g files) (faults_left rest) ⊎ IsFullLeft rest)))

  -- the same of an open, where it got no further
  abbrev pub FailsToOpen : Unopened D g → Fault → Type 0
  FailsToOpen (unopened.Files rest) fault = IsCleanLeft rest → FailsToConnect rest fault
  FailsToOpen (unopened.Database conn) fault = Unit {0}

-- the same of files that an open found itself, and of which this holds
module _ {D : Type 0} {g : disk.Ghosts D} (IsFound : Files D → Type 0) where
  abbrev pub FailsToOpenSome : Fault → Unopened D g → Type 0
  FailsToOpenSome fault rest = (files : Files D) × IsFound files × FailsToOpen files rest fault

-- a path that begins with "file:", which is a URI to SQLite
abbrev pub IsUri : Text → Type 0
IsUri path = (rest : Text) × (path ≡ codes "file:" ++ rest)
