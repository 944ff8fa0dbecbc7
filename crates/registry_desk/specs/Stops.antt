-- What is found again after a stop.
use Rattle.std.specs.Prelude.{◌≡◌, List, [], ◌∷◌}
use Rattle.sqlite.specs.Files.{HoldsDatabase}
use Rattle.sqlite.specs.Start.{FindsIn}
use Rattle.sqlite.specs.State.{State as Shown, HasCleanDisk, IsLive, Opens}
use Rattle.sqlite_catalog.specs.Listing.{IsSound}
use Rattle.sqlite_trees.specs.Tree.{Trees}
use Rattle.sqlite_wal.specs.Recovery.{Image}
use Rattle.registry_rules.specs.Kept.{IsKept}
use Rattle.registry_tables.specs.Archives.{HoldsArchives}
use Rattle.registry_tables.specs.Contents.{Contents}
use Rattle.registry_tables.specs.Effects.{registry_in, stored}
use Rattle.registry_migration.specs.Migration.{Migrates}
use Rattle.registry_migration.specs.Older.{contents_of, schema_of}
use Rattle.registry_migration.specs.declared.older.Older.{Older}
use Rattle.registry_laws_history.specs.History.{Entry, after}
use Rattle.registry_desk.specs.Adopted.{IsMade}
use Rattle.registry_desk.specs.Opened.{GivesFound, HoldsEach, LeavesFound}
use Rattle.registry_desk.specs.Promises.{HoldsReferences, HoldsSound, IsSure}
use Rattle.registry_desk.specs.Resting.{Rests}

-- the next life begins with all that the last one stored. So what a request supposes of a registry
-- holds again, and the history goes on
pub record GoesOn (last next : Shown) : Type 0 where
  pub same : stored next ≡ stored last
  pub sound : HoldsSound last → HoldsSound next
  pub refers : HoldsReferences (stored last) → HoldsReferences (stored next)
  pub archives : HoldsArchives (stored last) → HoldsArchives (stored next)
  pub form : IsKept (registry_in last) → IsKept (registry_in next)
  pub history : (h : List Entry) → registry_in last ≡ after h → registry_in next ≡ after h

-- files are opened, and a registry takes over the connection: it holds what an open of them gives
abbrev pub AdoptionsAreOpens : {D : Type 0} → (D → Shown) → Type 0
AdoptionsAreOpens {D} show = (seen next : D) (image : Image) → (HasCleanDisk (show seen) → Opens (show seen) × IsLive (show seen)) → (HasCleanDisk (show seen) → FindsIn image (show seen))
    → IsMade (show seen) (show next) → HoldsEach image (show next)

module _ {C D : Type 0} (show : C → Shown) (show_next : D → Shown) where
  -- a crash leaves what was stored and nothing else, the files hold one of the databases that it
  -- may leave, and these files are opened
  abbrev pub StopsLoseNothing : Type 0
  StopsLoseNothing = (last : C) (next : D) (image : Image) (db : Trees) → IsSure (show last) → (show last).may_leave db → HoldsDatabase image db
      → HoldsEach image (show_next next) → HasCleanDisk (show_next next) → GoesOn (show last) (show_next next)

  -- the same where these files are opened, and a registry takes over the connection
  abbrev pub StopsAreAdopted : Type 0
  StopsAreAdopted = (last : C) (seen next : D) (image : Image) (db : Trees) → IsSure (show last) → (show last).may_leave db → HoldsDatabase image db
      → (HasCleanDisk (show_next seen) → Opens (show_next seen) × IsLive (show_next seen)) → (HasCleanDisk (show_next seen) → FindsIn image (show_next seen))
      → IsMade (show_next seen) (show_next next) → HasCleanDisk (show_next next) → GoesOn (show last) (show_next next)

  -- What one registry gives back the next one takes over. No registry takes over a connection that
  -- a fault has shut
  abbrev pub ReleasesAreAdopted : Type 0
  ReleasesAreAdopted = (last : C) (next : D) → Rests (show last) → IsMade (show last) (show_next next) → HasCleanDisk (show_next next) → GoesOn (show last) (show_next next)

-- ---- of an older schema

-- c holds what a migration makes of what the database of the older schema held: the same registry,
-- with the needs and the archives of its live versions
abbrev pub HoldsMigrated : Older → Trees → Contents → Type 0
HoldsMigrated older db c = Migrates older (contents_of older db) c

-- whatever a stop in an open leaves of such a database, the next open makes that registry of it
abbrev pub MigrationsLoseNothing : Type 0
MigrationsLoseNothing = (older : Older) (db left : Trees) (c : Contents) → IsSound (schema_of older) db → LeavesFound db left → GivesFound left c → HoldsMigrated older db c

-- ---- of an open that is stopped

-- opens are stopped, one after another: each finds what the one before it left, and leaves the next
-- of these databases
abbrev pub AreLeft : Trees → List Trees → Trees → Type 0
AreLeft db [] last = last ≡ db
AreLeft db (left ∷ more) last = LeavesFound db left × AreLeft left more last

-- what an open of such files gives, an open of the files before the stop would have given
abbrev pub StoppedOpensLoseNothing : Type 0
StoppedOpensLoseNothing = (db left : Trees) (c : Contents) → LeavesFound db left → GivesFound left c → GivesFound db c

-- this holds of any number of stops
abbrev pub StopsInARowLoseNothing : Type 0
StopsInARowLoseNothing = (db last : Trees) (stops : List Trees) (c : Contents) → AreLeft db stops last → GivesFound last c → GivesFound db c
