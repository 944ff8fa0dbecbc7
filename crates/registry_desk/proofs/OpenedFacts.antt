-- What an open finds in files: rows whose rowids rise.
use Rattle.registry_desk.proofs.Words.{◌≡◌, ◌⊎◌, ◌∙◌, ℕ, filter, true, List, [], inl, inr, ap, sym, subst, IsOk, IsTrue, OnOk, MatchResult, Result, Ok, Err, length, refl, arith, AllByRecursion, Trees}
use Rattle.registry_desk.proofs.Words.{AreFoundIn, Finds, HoldsDatabase, file_state, image_of, Held, Database, IsDatabase, Shown, HasCleanDisk, IsLive, Opens, store_error, Error, Fault}
use Rattle.registry_desk.proofs.Words.{Ready, no_tables, Contents, stored, fresh, schema_of, CanBeAdopted, IsMade, LeavesCommitted, SurvivesAdoption, GivesFound, HoldsEach, HoldsFound, IsFreshIfEmpty}
use Rattle.registry_desk.proofs.Words.{IsLeftOf, LeavesFound}
use Rattle.std.proofs.Math.Logic.{∥∥₁_elim}
use Rattle.sqlite_rules.specs.Lists.{Has}
use Rattle.sqlite_rules.proofs.ListLemmas.{all_from}
use Rattle.sqlite_schema.specs.declared.schema.Schema.{Schema}
use Rattle.sqlite_schema.specs.declared.schema.Table.{Table}
use Rattle.sqlite_catalog.specs.Listing.{IsSound, IsTableRow, is_table_row}
use Rattle.sqlite_catalog.proofs.LayoutLemmas.{table_shape, zipped_left}
use Rattle.sqlite_trees.specs.Objects.{IsListed, catalog_tree}
use Rattle.sqlite_trees.specs.View.{IsOrdered, IsShaped}
use Rattle.sqlite_trees.specs.Props.{IsOrdered-prop}
use Rattle.sqlite_store.specs.Listing.{IsOurs, all_reals, all_shapes, file_trees}
use Rattle.sqlite_store.specs.Listed.{catalog_rows, is_listed}
use Rattle.sqlite_store.specs.declared.catalog.Wanted.{Wanted}
use Rattle.sqlite_store.proofs.ListingLemmas.{all_ordered}
use Rattle.sqlite_pages.specs.PageMap.{PageMap}
use Rattle.sqlite_pool.specs.File.{in_use, version_in}
use Rattle.sqlite_wal.specs.Recovery.{Image}
use Rattle.sqlite_disk.specs.declared.Disk as disk
use Rattle.sqlite_disk.specs.declared.Files.{Files}
use Rattle.sqlite_store.specs.declared.store.FileStore.{FileStore}
use Rattle.sqlite.specs.Start.{FindsIn}
use Rattle.sqlite.specs.Opening.{FailsAs}
use Rattle.sqlite_disk.specs.Disk.{MoreFaults}
use Rattle.sqlite_trees.specs.declared.error.StoreError.{StoreError}
use Rattle.sqlite_trees.specs.declared.error.StoreError.TheVariants as kinds
use Rattle.registry_names.specs.declared.stop.Fault.TheVariants as faults
use Rattle.registry_rows.specs.Faults.{as_fault}
use Rattle.registry_rows.specs.Rows.{HasRowids}
use Rattle.registry_tables.specs.Schema as ours
use Rattle.registry_migration.specs.declared.older.Older.{Older}
use Rattle.registry_migration.specs.declared.older.Older.TheVariants.{First, Second}
use Rattle.registry_desk.specs.Opened.{IsMadeOf}

-- ---- rowids

-- the pages of a sound file list a schema: its tables' rows rise
rises_in : (size : ℕ) (pages : PageMap) (wanted : List Wanted) (schema : Schema) → ∥ IsOurs size true wanted pages ∥₁ → IsSound schema (file_trees size wanted pages)
    → (t : Table) → Has schema.tables t → HasRowids (file_trees size wanted pages t.tree)
rises_in size pages wanted schema ours sound t here =
    let trees : Trees = file_trees size wanted pages in
    let told : IsListed (trees catalog_tree) (all_shapes wanted) (all_reals wanted) = rw (catalog_rows size wanted (in_use size pages)) (is_listed wanted) in
    let ordered : IsOrdered (all_shapes wanted) trees = ∥∥₁_elim ours (IsOrdered-prop _ _) (λ o. all_ordered o.file.db (version_in pages)) in
    let rising = subst (λ s. IsShaped s (trees catalog_tree)) told.itself.0 (ordered catalog_tree) in
    subst (λ s. IsShaped s (trees t.tree)) (table_shape told rising.0 sound.lists.listed t here).0 (ordered t.tree)

-- a database without a list of objects has no tables
no_table : (db : Trees) (schema : Schema) → db catalog_tree ≡ [] → IsSound schema db → (t : Table) → ¬ Has schema.tables t
no_table db schema none sound t here =
    let row = zipped_left IsTableRow _ schema.tables t sound.lists.listed.tables here in
    subst (λ rows. Has (filter is_table_row rows) row.0) none row.1

pub found_rises : (image : Image) (db : Trees) (schema : Schema) → AreFoundIn image db → IsSound schema db → AllByRecursion (λ t. HasRowids (db t.tree)) schema.tables
found_rises image db schema (inl found) sound = all_from (λ t. HasRowids (db t.tree)) schema.tables
    (λ t here. subst (λ d. HasRowids (d t.tree)) (sym found.5) (rises_in found.0 found.1 found.2 schema found.4 (subst (IsSound schema) found.5 sound) t here))
found_rises image db schema (inr (nothing, empty)) sound = all_from (λ t. HasRowids (db t.tree)) schema.tables (λ t here. absurd (no_table db schema empty.1 sound t here))

-- ---- what is seen at first

-- where the schema is this one, the tables are in form
pub as_ready : (k : Schema) (s : Shown) → CanBeAdopted s → IsLive s → s.now.schema ≡ k → Ready k s
as_ready k s rises live is clean on = record {
  schema_is = is;
  sound = (live on).0;
  rowids = subst (λ (schema : Schema). AllByRecursion (λ t. HasRowids (s.now.trees t.tree)) schema.tables) is (rises clean on);
}

-- an answer is no error
pub no_error : {V E : Type 0} (x : V) (e : E) → Ok x ≡ Err e → ⊥
no_error {V} {E} x e is = subst (λ (r : Result V E). MatchResult r (λ _. Unit {0}) (λ _. ⊥)) is tt

-- two facts of an answer
pub both_ok : {A E : Type 0} {P Q R : Type 0} (r : Result A E) → (P → Q → R) → OnOk r P → OnOk r Q → OnOk r R
both_ok (Ok a) f p q = f p q
both_ok (Err e) f p q = tt

-- a fact of an answer that is one
pub when_ok : {A E : Type 0} {P : Type 0} (r : Result A E) → (IsOk r → P) → OnOk r P
when_ok (Ok a) f = f refl
when_ok (Err e) f = tt

-- ---- of the trees that the files hold

sound_as : (schema : Schema) (seen : Database) → seen.schema ≡ schema → IsDatabase seen → IsSound schema seen.trees
sound_as schema seen is sound = subst (λ s. IsSound s seen.trees) is sound

-- what is made of the database that was seen is given of the trees that the files hold
pub gives_found : (seen : Database) (c : Contents) → IsMadeOf seen c → IsDatabase seen → GivesFound seen.trees c
gives_found seen c (inl (schema_is, number, is)) sound = inl (sound_as ours.schema seen schema_is sound, number, is)
gives_found seen c (inr (inl (none, is))) sound = inr (inl (sound_as no_tables seen none sound, is))
gives_found seen c (inr (inr (older, was, is))) sound = inr (inr (older, sound_as (schema_of older) seen was sound, is))

pub leaves_found : (seen : Database) (left : Trees) → IsDatabase seen → IsLeftOf seen left → LeavesFound seen.trees left
leaves_found seen left sound (inl same) = inl same
leaves_found seen left sound (inr (inl (none, is))) = inr (inl (sound_as no_tables seen none sound, is))
leaves_found seen left sound (inr (inr (older, was, is))) = inr (inr (older, sound_as (schema_of older) seen was sound, is))

-- the older schemas have users
pub has_users : (older : Older) → Has (schema_of older).tables ours.users
has_users First = inl refl
has_users Second = inl refl

pub empty_gives_fresh : (image : Image) (db : Trees) (c : Contents) → image.db ≡ [] → AreFoundIn image db → GivesFound db c → c ≡ fresh
empty_gives_fresh image db c none (inl found) gives = absurd (let some = found.3.found.present in let bytes = ap length none in omega (arith, some, bytes))
empty_gives_fresh image db c none (inr (nothing, empty)) (inl (sound, number, is)) = absurd (no_table db ours.schema empty.1 sound ours.users (inl refl))
empty_gives_fresh image db c none (inr (nothing, empty)) (inr (inl (sound, is))) = is
empty_gives_fresh image db c none (inr (nothing, empty)) (inr (inr (older, sound, is))) = absurd (no_table db (schema_of older) empty.1 sound ours.users (has_users older))

-- ---- of an open

-- what an open of two files finds, by what they hold
pub finds_in : {D : Type 0} {g : disk.Ghosts D} (files : Files D) (c : Held (FileStore D g)) → (HasCleanDisk (file_state c) → Finds files c) → HasCleanDisk (file_state c) → FindsIn (image_of g files) (file_state c)
finds_in files c finds clean = record { holds = (finds clean).holds; reads = (finds clean).reads }

module _ (image : Image) (seen later : Shown) (opened : HasCleanDisk seen → Opens seen × IsLive seen) (finds : HasCleanDisk seen → FindsIn image seen) where
  pub opened_rises : CanBeAdopted seen
  opened_rises clean on =
      let now = opened clean in
      let same = ap (λ (d : Database). d.trees) now.0.clean in
      found_rises image seen.now.trees seen.now.schema (subst (AreFoundIn image) (sym same) (finds clean).reads) (now.1 now.0.is_open).0

  module _ (made : IsMade seen later) where
    given : (clean : HasCleanDisk later) → GivesFound seen.committed.trees (stored later)
    given clean =
        let it = made clean in
        let now = opened it.0 in
        subst (λ d. GivesFound d (stored later)) (ap (λ (d : Database). d.trees) now.0.clean) (gives_found seen.now (stored later) it.2 (now.1 now.0.is_open).0)

    pub holds_found : HoldsFound image later
    holds_found clean = (seen.committed.trees, (finds (made clean).0).reads, given clean)

    pub holds_each : HoldsEach image later
    holds_each clean db holds = subst (λ d. GivesFound d (stored later)) ((finds (made clean).0).holds db holds) (given clean)

    pub fresh_if_empty : IsFreshIfEmpty image later
    fresh_if_empty clean none = empty_gives_fresh image seen.committed.trees (stored later) none (finds (made clean).0).reads (given clean)

  -- a crash could leave what was found alone, since the connection was open, and still does where it is
  pub leaves_at_most : ((db : Trees) → IsTrue seen.is_open → seen.may_leave db → db ≡ seen.committed.trees) → SurvivesAdoption seen later → LeavesCommitted seen later
      → HasCleanDisk later → (db : Trees) × AreFoundIn image db × ((held : Trees) → HoldsDatabase image held → db ≡ held) × ((left : Trees) → later.may_leave left → LeavesFound db left)
      × (IsTrue later.is_open → (left : Trees) → later.may_leave left → left ≡ db)
  leaves_at_most settled survives alone clean =
      let before : HasCleanDisk seen = omega (arith, survives.clean, clean) in
      let now = opened before in (
        seen.committed.trees,
        (finds before).reads,
        (finds before).holds,
        λ left may. elim (survives.crash clean left may) [
          | inl earlier ↦ inl (settled left now.0.is_open earlier)
          | inr made ↦ subst (λ d. LeavesFound d left) (ap (λ (d : Database). d.trees) now.0.clean) (leaves_found seen.now left (now.1 now.0.is_open).0 made.1)
        ],
        alone clean,
      )

-- ---- why an open fails

module _ (old new : ℕ) (AtLimit Wanted : Type 0) (fault : Fault) where
  abbrev Why : Type 0
  Why = (fault ≡ faults.Memory) ⊎ ((fault ≡ faults.Database) × ((¬ Wanted) ⊎ (MoreFaults old new ⊎ AtLimit)))

  by_kind : (kind : StoreError) → fault ≡ as_fault (store_error kind) → MoreFaults old new → Why
  by_kind kinds.OutOfMemory is more = inl is
  by_kind kinds.Io is more = inr (is, inr (inl more))
  by_kind kinds.Corrupt is more = inr (is, inr (inl more))
  by_kind kinds.Full is more = inr (is, inr (inl more))
  by_kind kinds.Broken is more = inr (is, inr (inl more))
  by_kind kinds.Unstorable is more = inr (is, inr (inl more))

  pub fails_as : (kind : StoreError) (e : Error) → FailsAs kind old new AtLimit Wanted e → fault ≡ as_fault e → Why
  fails_as kind e fails is = elim fails [
    | inl memory ↦ inl (is ∙ ap as_fault memory)
    | inr other ↦ elim other [
      | inl none ↦ inr (
        elim none.0 [
          | inl foreign ↦ is ∙ ap as_fault foreign
          | inr corrupt ↦ is ∙ ap as_fault corrupt
        ],
        inl none.1,
      )
      | inr met ↦ elim met [
        | inl failed ↦ by_kind kind (is ∙ ap as_fault failed.0) failed.1
        | inr full ↦ inr (is ∙ ap as_fault full.0, inr (inr full.1))
      ]
    ]
  ]
