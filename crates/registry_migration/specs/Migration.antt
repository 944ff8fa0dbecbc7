-- What a migration asks of what is stored, and what it makes of it.
use Rattle.std.specs.Prelude.{◌≡◌, ◌<◌, ℕ, zero, suc, ℤ, pos, Option, Some, None, IsSome, is_some, true}
use Rattle.sqlite.specs.declared.types.Value.{Value}
use Rattle.sqlite.specs.declared.types.Value.TheVariants.{Int}
use Rattle.registry_names.specs.Keys.{Pair}
use Rattle.registry_names.specs.Maps.{at, empty, put}
use Rattle.registry_publish.specs.Needs.{needs_of}
use Rattle.registry_tables.specs.Archives.{HoldsArchives}
use Rattle.registry_tables.specs.Contents.{Contents, LiveVersion, registry_of}
use Rattle.registry_tables.specs.Fresh.{CountsArchivesAlone, schema_key, schema_number}
use Rattle.registry_tables.specs.Needs.{HoldsNeeds}
use Rattle.registry_migration.specs.Moved.{AreNumberedInOrder}
use Rattle.registry_migration.specs.Older.{number_of, registry_of_older}
use Rattle.registry_migration.specs.declared.older.Older.{Older}
use Rattle.registry_migration.specs.declared.older.Older.TheVariants.{First, Second}

-- each live version has a manifest whose needs can be read
abbrev pub NeedsAreReadable : Contents → Type 0
NeedsAreReadable c = (k : Pair) (release : LiveVersion) → at c.versions k ≡ Some release → IsSome (needs_of release.manifest)

-- The number is that of the schema, each manifest can be read, and SQLite counts for nothing but
-- the archives
pub record MayMigrate (older : Older) (c : Contents) : Type 0 where
  pub numbered : at c.meta schema_key ≡ Some (pos (number_of older))
  pub readable : NeedsAreReadable c
  pub counted : CountsArchivesAlone c

-- what SQLite keeps as the count of this many archives
abbrev pub counted_to : ℕ → Option Value
counted_to zero = None
counted_to (suc n) = Some (Int (pos (suc n)))

-- the archives have the numbers from 1 on, in a row, and the last of them is counted
pub record AreNumberedInARow (c : Contents) : Type 0 where
  pub count : ℕ
  pub numbers : (n : ℤ) → is_some (at c.archives n) ≡ true → (k : ℕ) × (k < count) × (n ≡ pos (suc k))
  pub each : (k : ℕ) → k < count → is_some (at c.archives (pos (suc k))) ≡ true
  pub last : c.last_archive ≡ counted_to count

-- archives that were in rows of versions are stored now, each once, and are numbered in a row, in
-- the order of the versions; those that were stored already are as they were
abbrev pub KeepsArchives : Older → Contents → Contents → Type 0
KeepsArchives First before after = HoldsArchives after × AreNumberedInARow after × AreNumberedInOrder before after
KeepsArchives Second before after = (after.versions ≡ before.versions) × (after.held ≡ before.held) × (after.archives ≡ before.archives) × (after.last_archive ≡ before.last_archive)

pub record Migrates (older : Older) (before after : Contents) : Type 0 where
  -- it is the same registry
  pub same : registry_of after ≡ registry_of_older older before
  -- the needs that are stored are those of live manifests, with their ranges
  pub needs : HoldsNeeds after
  -- and none is stored without its range
  pub targets : after.needs ≡ empty
  pub archives : KeepsArchives older before after
  pub numbered : after.meta ≡ put before.meta schema_key (pos schema_number)
  pub counted : CountsArchivesAlone after
