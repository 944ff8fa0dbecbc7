-- What the steps of a migration make of what is stored, one version after another. For private
-- clauses.
use Rattle.std.specs.Prelude.{◌≡◌, ℤ, cond, ◌&&◌, List, [], ◌∷◌, Result, OnOk, Some, None, IsSome, is_some, true, option_map, if◌then◌else◌}
use Rattle.sqlite_value.specs.Order.{Row, column}
use Rattle.sqlite.specs.State.{HasCleanDisk}
use Rattle.sqlite.specs.declared.transaction.Transaction.{Transaction}
use Rattle.sqlite_trees.specs.declared.store.Store.{Ghosts}
use Rattle.registry_names.specs.Keys.{Pair, pair_is}
use Rattle.registry_names.specs.Texts.{Text}
use Rattle.registry_names.specs.Maps.{among, at, empty, entries, erase, keys}
use Rattle.registry_publish.specs.Integrity.{integrity_text}
use Rattle.registry_publish.specs.Needs.{needs_of}
use Rattle.registry_publish.specs.declared.need.Need.{Need}
use Rattle.registry_rows.specs.Columns.{text_in}
use Rattle.registry_rows.specs.Ready.{Leaves}
use Rattle.registry_rows.specs.TextKeys.{Texts, TextsMap, texts_are, texts_from}
use Rattle.registry_tables.specs.Archives.{HeldAreStored, HoldsArchives}
use Rattle.registry_tables.specs.Contents.{Archive, Contents, LiveVersion, bytes_held, contents, live_of}
use Rattle.registry_tables.specs.Effects.{shown, stored_in}
use Rattle.registry_tables.specs.Needs.{HoldsNeeds, is_needed, with_needs}
use Rattle.registry_tables.specs.Schema.{schema}
use Rattle.registry_migration.specs.Migration.{AreNumberedInARow, NeedsAreReadable}
use Rattle.registry_migration.specs.Older.{live_in_rows}
use Rattle.registry_migration.specs.Moved.{archive_moved, archives_moved, bare}
use Rattle.registry_migration.specs.declared.older.Older.{Older}
use Rattle.registry_migration.specs.declared.older.Older.TheVariants.{First, Second}
use Rattle.registry_migration.specs.declared.needs.TargetKey.{TargetKey}
use Rattle.registry_migration.specs.declared.versions.VersionKey.{VersionKey}

module _ {S R E : Type 0} (store : Ghosts S) (old new : Transaction S) (result : Result R E) where
  -- an answer leaves the tables in form, and what is stored so related to what was
  abbrev pub Turns : (Contents → Contents → Type 0) → Type 0
  Turns is_turned = HasCleanDisk (shown store new) → OnOk result (Leaves schema contents (stored_in store new) (shown store new) × is_turned (stored_in store old) (stored_in store new))

-- ---- keys of rows

abbrev pub version_key : VersionKey → Pair
version_key k = (k.package, k.version)

abbrev pub key_spelled : Row → Pair
key_spelled r = (text_in (column r 0), text_in (column r 1))

abbrev pub target_key : TargetKey → Texts 2
target_key k = (k.package, (k.version, k.target))

abbrev pub target_spelled : Row → Texts 2
target_spelled r = texts_from 2 0 r

-- ---- archives

-- none is stored, and none was
abbrev pub HasNoArchives : Contents → Type 0
HasNoArchives c = (c.held ≡ empty) × (c.archives ≡ empty) × (c.last_archive ≡ None)

pub record MovesArchive (k : Pair) (before after : Contents) : Type 0 where
  pub release : LiveVersion
  pub lives : at before.versions k ≡ Some release
  -- it had none yet
  pub free : at before.held k ≡ None
  pub moved : after ≡ archive_moved k release.archive before

-- each archive that is stored is a version's, and has its integrity; no two have the same bytes, and
-- they are numbered in a row
pub record StoresArchives (c : Contents) : Type 0 where
  pub stored : HeldAreStored c
  pub had : (n : ℤ) (a : Archive) → at c.archives n ≡ Some a → (k : Pair) × (at c.held k ≡ Some n)
  pub integrity : (n : ℤ) (a : Archive) → at c.archives n ≡ Some a → a.integrity ≡ integrity_text a.bytes
  pub once : (m n : ℤ) (a b : Archive) → at c.archives m ≡ Some a → at c.archives n ≡ Some b → a.bytes ≡ b.bytes → m ≡ n
  pub numbered : AreNumberedInARow c

-- a row of one of these versions has no bytes
abbrev pub bare_among : List Pair → Pair → LiveVersion → LiveVersion
bare_among ks k release = if among pair_is ks k then bare release else release

-- the archives of these versions are stored, and no other
pub record HasMoved (ks : List Pair) (before after : Contents) : Type 0 where
  pub others : after ≡ record before { versions = after.versions; held = after.held; archives = after.archives; last_archive = after.last_archive }
  pub rows : (k : Pair) → at after.versions k ≡ option_map (bare_among ks k) (at before.versions k)
  pub held : (k : Pair) → is_some (at after.held k) ≡ (among pair_is ks k && is_some (at before.versions k))
  pub bytes : (k : Pair) (release : LiveVersion) → among pair_is ks k ≡ true → at before.versions k ≡ Some release → bytes_held after k ≡ release.archive
  pub stores : StoresArchives after
  pub in_turn : after ≡ archives_moved ks before

-- the live versions have the archives that their rows had
pub record MovesArchives (before after : Contents) : Type 0 where
  pub others : after ≡ record before { versions = after.versions; held = after.held; archives = after.archives; last_archive = after.last_archive }
  pub live : live_of after ≡ live_in_rows before
  pub archives : HoldsArchives after
  pub numbered : AreNumberedInARow after
  pub in_turn : after ≡ archives_moved (keys (entries before.versions)) before

-- the same of a schema that has them in the rows. Of another they are as they were
abbrev pub HasNoneMoved : Older → Contents → Type 0
HasNoneMoved First c = HasNoArchives c
HasNoneMoved Second c = Unit {0}

abbrev pub Moves : Older → Contents → Contents → Type 0
Moves First before after = MovesArchives before after
Moves Second before after = after ≡ before

-- ---- needs

abbrev pub HasNoRanges : Contents → Type 0
HasNoRanges c = c.need_ranges ≡ empty

-- the version's need of this target, which has no range, is gone
abbrev pub without_target : TextsMap 2 (Unit {0}) → Text → Text → Text → TextsMap 2 (Unit {0})
without_target m p v target = erase m (p, (v, target))

-- and those of the targets of these needs
abbrev pub without_targets : TextsMap 2 (Unit {0}) → Pair → List Need → TextsMap 2 (Unit {0})
without_targets m k [] = m
without_targets m k (need ∷ needs) = without_targets (without_target m k.0 k.1 need.target) k needs

-- the needs of the version's manifest are stored, and what was stored of them without ranges is gone
pub record PutsNeedsOf (k : Pair) (before after : Contents) : Type 0 where
  pub release : LiveVersion
  pub lives : at before.versions k ≡ Some release
  pub needs : List Need
  pub read : needs_of release.manifest ≡ Some needs
  pub put : after ≡ record before { need_ranges = with_needs before.need_ranges k.0 k.1 needs; needs = without_targets before.needs k needs }

-- the needs of these versions are stored, and no other. Of those without ranges some are gone
pub record HasPut (ks : List Pair) (before after : Contents) : Type 0 where
  pub others : after ≡ record before { need_ranges = after.need_ranges; needs = after.needs }
  pub stored : (p v target range : Text) → is_some (at after.need_ranges (p, (v, (target, range)))) ≡ (among pair_is ks (p, v) && is_needed before.versions p v target range)
  pub readable : (k : Pair) (release : LiveVersion) → among pair_is ks k ≡ true → at before.versions k ≡ Some release → IsSome (needs_of release.manifest)

-- the needs of all live versions are stored. Of those without ranges some are gone
pub record PutsNeeds (before after : Contents) : Type 0 where
  pub others : after ≡ record before { need_ranges = after.need_ranges; needs = after.needs }
  pub needs : HoldsNeeds after
  pub readable : NeedsAreReadable before

-- these needs without ranges are gone, and no other
pub record HasDropped (ks : List (Texts 2)) (before after : Contents) : Type 0 where
  pub others : after ≡ record before { needs = after.needs }
  pub left : (k : Texts 2) → at after.needs k ≡ cond (among (texts_are 2) ks k) None (at before.needs k)
