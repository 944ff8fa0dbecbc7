-- What is read of a disk piece by piece is all of it, and the database file of a closed registry
-- holds it alone, also where it was made of a copy.
use Rattle.std.proofs.Common.{◌≡◌, ◌⊎◌, ◌∙◌, ◌+◌, ◌<◌, ◌++◌, [], ℕ, Bool, false, List, Option, IsTrue, ap, arith, drop, get_or-drop, get_or-take, inl, inr, length, length-drop, length-take, refl, subst, sym, take}
use Rattle.std.specs.Io.KnownBytes.{Appends}
use Rattle.std.proofs.Math.Logic.{∥∥₁_map}
use Rattle.std.proofs.Math.Seq.{take-add}
use Rattle.std.proofs.lemmas.List.{ext_get_or}
use Rattle.sqlite.specs.Closing.{HoldsAlone, IsCopied}
use Rattle.sqlite.specs.Effect.{Database, IsDatabase}
use Rattle.sqlite.specs.Files.{Finds, HoldsDatabase, IsOpened, file_state, image_of}
use Rattle.sqlite.specs.Held.{Held}
use Rattle.sqlite.specs.State.{State as Shown, HasCleanDisk}
use Rattle.sqlite_catalog.specs.Listing.{IsSound}
use Rattle.sqlite_disk.specs.Disk.{Holds}
use Rattle.sqlite_disk.specs.declared.Disk.{Ghosts}
use Rattle.sqlite_disk.specs.declared.Files.{Files}
use Rattle.sqlite_schema.specs.declared.schema.Schema.{Schema}
use Rattle.sqlite_store.specs.declared.store.FileStore.{FileStore}
use Rattle.sqlite_trees.specs.Tree.{Trees}
use Rattle.sqlite_wal.specs.Recovery.{Image}
use Rattle.registry_desk.specs.Adopted.{IsMade}
use Rattle.registry_desk.specs.Opened.{IsMadeOf, IsOurs}
use Rattle.registry_desk.specs.Resting.{IsRegistryOf, Rests}
use Rattle.registry_migration.specs.Older.{schema_of}
use Rattle.registry_migration.specs.declared.older.Older.{Older}
use Rattle.registry_migration.specs.declared.older.Older.TheVariants.{First, Second}
use Rattle.registry_names.specs.Texts.{Text}
use Rattle.registry_files.specs.Copies.{HoldsRegistry, HoldsSeen, HoldsTold, IsCopy, IsHeld, IsOlder, IsRead, IsRestored, RestoresOlder, RestoresRegistry, StaysCommitted, alone}
use Rattle.registry_files.specs.Lines.{lines_of}
use Rattle.registry_rows.specs.Tables.{no_tables}
use Rattle.registry_rows.specs.Ready.{IsReady}
use Rattle.registry_tables.specs.Contents.{Contents, contents}
use Rattle.registry_tables.specs.Effects.{stored}
use Rattle.registry_tables.specs.Schema.{schema}

-- the bytes that are held from here on are the next ones
pub held_next : (file bytes : List ℕ) (at : ℕ) → Holds file at bytes → take (at + length bytes) file ≡ take at file ++ bytes
held_next file bytes at h =
    let n = length bytes in
    let long : length (take n (drop at file)) ≡ n = omega (arith, length-take n (drop at file), length-drop at file, h.within) in
    let same : take n (drop at file) ≡ bytes = ext_get_or 0 (take n (drop at file)) bytes long (λ i inside.
    let within : i < n = omega (arith, inside, long) in
    get_or-take n (drop at file) i 0 within ∙ get_or-drop at file i 0 ∙ h.each i within) in
    take-add at n file ∙ ap (λ (l : List ℕ). take at file ++ l) same

is_registry : (s : Shown) (db : Trees) → IsReady schema s → db ≡ s.now.trees → IsRegistryOf db (stored s)
is_registry s db ready is = (subst (IsSound schema) (sym is) (subst (λ k. IsSound k s.now.trees) ready.schema_is ready.sound), ap contents is)

-- what was committed when the registry was closed is in the file, and it is the registry
holds_trees : {D : Type 0} {g : Ghosts D} (conn : Held (FileStore D g)) (files : Files D) (s : Shown) → IsCopied conn files → Rests s → HasCleanDisk s → IsTrue s.is_open
    → (file_state conn).committed ≡ s.committed → ∥ (HoldsDatabase (alone (g.seen files.db)) s.now.trees × IsRegistryOf s.now.trees (stored s)) ∥₁
holds_trees {D} {g} conn files s copied rests clean on same =
    let ready = rests.in_form clean on in
    let trees : (file_state conn).committed.trees ≡ s.now.trees = ap (λ (d : Database). d.trees) (same ∙ sym (rests.settled clean on)) in
    ∥∥₁_map copied.seen.alone (λ h. (subst (λ (db : Trees). HoldsDatabase (alone (g.seen files.db)) db) trees h, is_registry s s.now.trees ready refl))

-- what was stored when a registry was closed is in the file alone
pub holds_stored : {D : Type 0} {g : Ghosts D} (conn : Held (FileStore D g)) (files : Files D) → Rests (file_state conn) → IsCopied conn files → HoldsRegistry (g.seen files.db) (stored (file_state conn))
holds_stored {D} {g} conn files rests copied = ∥∥₁_map (holds_trees {g = g} conn files (file_state conn) copied rests copied.was_clean copied.was_open refl) (λ h. ((file_state conn).now.trees, h.0, h.1))

pub is_copy : {D : Type 0} {g : Ghosts D} (conn : Held (FileStore D g)) (files : Files D) (old new : Option (List ℕ)) → Rests (file_state conn) → IsCopied conn files
    → Appends old new (g.seen files.db) → IsCopy (file_state conn) old new
is_copy {D} {g} conn files old new rests copied wrote = record {
  file = g.seen files.db;
  wrote = wrote;
  holds = holds_stored {g = g} conn files rests copied;
}

abbrev image_with : List ℕ → List ℕ → Image
image_with log db = record { log = log; db = db }

-- what was copied into a file is in it after that was read, too
pub still_copied : {D : Type 0} {g : Ghosts D} (conn : Held (FileStore D g)) (files rest : Files D) → rest.log ≡ files.log → IsRead g files.db rest.db → IsCopied conn files → IsCopied conn rest
still_copied {D} {g} conn files rest log read copied =
    let logs : image_with (g.seen rest.log) (g.seen rest.db) ≡ image_with (g.seen files.log) (g.seen rest.db) = ap (λ (d : D). image_with (g.seen d) (g.seen rest.db)) log in
    let same : image_with (g.seen rest.log) (g.seen rest.db) ≡ image_with (g.seen files.log) (g.seen files.db) = logs ∙ ap (λ (bytes : List ℕ). image_with (g.seen files.log) bytes) read.seen in
    record {
      was_clean = copied.was_clean;
      was_open = copied.was_open;
      seen = subst (λ (image : Image). HoldsAlone image (file_state conn).committed.trees) (sym same) copied.seen;
      left = λ image may. copied.left image (subst (λ (d : D). g.may_leave d image.log) log may.0, read.crash image.db may.1);
    }

-- the registry that a closed connection was made of, which stayed as it was until then
pub is_held : {D : Type 0} {g : Ghosts D} (conn : Held (FileStore D g)) (files : Files D) (s : Shown) (checks : Bool) (lines : List Text) → Rests s → StaysCommitted s (file_state conn)
    → (HasCleanDisk (file_state conn) → lines ≡ lines_of checks s.now.trees) → IsCopied conn files → IsHeld s (g.seen files.db) checks lines
is_held {D} {g} conn files s checks lines rests stays told copied =
    let kept = stays.committed copied.was_clean in
    let clean = stays.clean copied.was_clean in
    let on = kept.was_open copied.was_open in
    record {
      was_clean = clean;
      was_open = on;
      holds = ∥∥₁_map (holds_trees {g = g} conn files s copied rests clean on (kept.committed copied.was_open)) (λ h. (s.now.trees, h.0, h.1, told copied.was_clean));
    }

-- ---- a file that is made of a copy

-- a schema has another number of tables than those before it
no_older : (older : Older) → schema ≡ schema_of older → ⊥
no_older First is = let count : 18 ≡ 14 = ap (λ (s : Schema). length s.tables) is in omega (arith, count)
no_older Second is = let count : 18 ≡ 17 = ap (λ (s : Schema). length s.tables) is in omega (arith, count)

not_empty : schema ≡ no_tables → ⊥
not_empty is = let count : 18 ≡ 0 = ap (λ (s : Schema). length s.tables) is in omega (arith, count)

-- where the tables of a registry were seen, what is made of them is what they hold
made_same : (seen : Database) (c : Contents) → seen.schema ≡ schema → IsMadeOf seen c → IsOurs (contents seen.trees) × (c ≡ contents seen.trees)
made_same seen c is (inl made) = (made.1, made.2)
made_same seen c is (inr (inl (none, same))) = absurd (not_empty (sym is ∙ none))
made_same seen c is (inr (inr (older, was, same))) = absurd (no_older older (sym is ∙ was))

-- a registry that was made of what was seen is in the file
pub made_seen : (seen last : Shown) (file : List ℕ) (checks : Bool) (lines : List Text) → seen.now.schema ≡ schema → IsMade seen last → IsHeld last file checks lines → HoldsSeen seen file checks lines
made_seen seen last file checks lines is made held =
    let it = made held.was_clean in
    let same = made_same seen.now (stored last) is it.2 in
    record {
      was_clean = it.0;
      was_open = it.1;
      holds = inl (is, same.0, subst (λ (c : Contents). HoldsTold file c checks lines) same.1 held.holds);
    }

-- a database of an older schema that was closed as it was seen
pub same_seen : {D : Type 0} {g : Ghosts D} (conn : Held (FileStore D g)) (files : Files D) (checks : Bool) (lines : List Text) → IsOlder (file_state conn).now.schema → checks ≡ false → lines ≡ []
    → IsCopied conn files → HoldsSeen (file_state conn) (g.seen files.db) checks lines
same_seen conn files checks lines older unchecked untold copied = record {
  was_clean = copied.was_clean;
  was_open = copied.was_open;
  holds = inr (older, unchecked, untold, copied.seen.alone);
}

restored_as : (seen : Shown) (file : List ℕ) (checks : Bool) (lines : List Text) → seen.now ≡ seen.committed → IsDatabase seen.now → HoldsSeen seen file checks lines
    → RestoresRegistry seen.committed.trees file checks lines ⊎ RestoresOlder seen.committed.trees file checks lines
restored_as seen file checks lines same sound held = elim held.holds [
  | inl it ↦ inl (subst (λ (d : Database). RestoresRegistry d.trees file checks lines) same
      (record { tables = subst (λ s. IsSound s seen.now.trees) it.0 sound; ours = it.1; holds = it.2 }))
  | inr it ↦ inr (record {
    older = it.0.0;
    tables = subst (λ (d : Database). IsSound (schema_of it.0.0) d.trees) same (subst (λ s. IsSound s seen.now.trees) it.0.1 sound);
    unchecked = it.1;
    untold = it.2;
    holds = it.3;
  })
]

-- what was found in the files of a copy is in the file
pub is_restored : {D : Type 0} {g : Ghosts D} (copy : Files D) (conn : Held (FileStore D g)) (file : List ℕ) (checks : Bool) (lines : List Text)
    → (HasCleanDisk (file_state conn) → IsOpened conn) → (HasCleanDisk (file_state conn) → Finds copy conn) → HoldsSeen (file_state conn) file checks lines
    → IsRestored (image_of g copy) file checks lines
is_restored {D} {g} copy conn file checks lines opened finds held =
    let now = opened held.was_clean in
    record {
      found = (file_state conn).committed.trees;
      was = (finds held.was_clean).reads;
      each = λ db is. sym ((finds held.was_clean).holds db is);
      holds = restored_as (file_state conn) file checks lines now.0.clean (now.1 held.was_open).0 held;
    }
