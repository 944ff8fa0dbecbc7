-- The archives that are stored, each once, and which of them the live versions have.
use Rattle.std.specs.Prelude.{◌≡◌, ℕ, ℤ, Bool, true, ◌&&◌, List, [], Option, Some, is_some, option_map, unwrap_or, if◌then◌else◌}
use Rattle.std.specs.List.{find}
use Rattle.sqlite.specs.declared.types.Value.TheVariants.{Int}
use Rattle.registry_names.specs.Keys.{Pair}
use Rattle.registry_names.specs.Texts.{Text, is}
use Rattle.registry_names.specs.Maps.{at, put, entries}
use Rattle.registry_publish.specs.Integrity.{integrity_text}
use Rattle.registry_rows.specs.Counting.{counted, next_number}
use Rattle.registry_rows.specs.KeyKinds.{NumberMap}
use Rattle.registry_tables.specs.Contents.{Archive, Contents, LiveVersion}

-- ---- how one is stored

-- it has this integrity, and is these bytes as a whole
abbrev pub is_archive : Text → List ℕ → Archive → Bool
is_archive integrity bytes a = is integrity a.integrity && is bytes a.bytes

-- the lowest number of an archive with this integrity and these bytes, if there is one
abbrev pub number_of : Text → List ℕ → NumberMap Archive → Option ℤ
number_of integrity bytes m = option_map (λ (e : ℤ × Archive). e.0) (find (λ (e : ℤ × Archive). is_archive integrity bytes e.1) (entries m))

-- whether one is there
abbrev pub is_stored : Text → List ℕ → Contents → Bool
is_stored integrity bytes c = is_some (number_of integrity bytes c.archives)

-- the number of the next archive
abbrev pub next_archive : Contents → ℤ
next_archive c = next_number (counted c.last_archive) c.archives

-- the number that these bytes have, or get
abbrev pub archive_number : Text → List ℕ → Contents → ℤ
archive_number integrity bytes c = unwrap_or (number_of integrity bytes c.archives) (next_archive c)

-- they are stored under the next number, which is counted
abbrev pub with_next_archive : Text → List ℕ → Contents → Contents
with_next_archive integrity bytes c = record c {
  archives = put c.archives (next_archive c) (record { integrity = integrity; bytes = bytes });
  last_archive = Some (Int (next_archive c));
}

-- they are stored: as they were, or under the next number, which is counted
abbrev pub with_archive : Text → List ℕ → Contents → Contents
with_archive integrity bytes c = record c {
  archives = if is_stored integrity bytes c then c.archives else put c.archives (next_archive c) (record { integrity = integrity; bytes = bytes });
  last_archive = if is_stored integrity bytes c then c.last_archive else Some (Int (next_archive c));
}

-- each archive has the integrity of its bytes, and the same bytes occur once
pub record AreArchivesSound (c : Contents) : Type 0 where
  pub integrity : (n : ℤ) (a : Archive) → at c.archives n ≡ Some a → a.integrity ≡ integrity_text a.bytes
  pub once : (m n : ℤ) (a b : Archive) → at c.archives m ≡ Some a → at c.archives n ≡ Some b → a.bytes ≡ b.bytes → m ≡ n

-- ---- whose they are

-- a number that a version has is that of an archive
abbrev pub HeldAreStored : Contents → Type 0
HeldAreStored c = (k : Pair) (n : ℤ) → at c.held k ≡ Some n → is_some (at c.archives n) ≡ true

-- The archives that are stored are those of live versions, each once, and no row of a version has
-- bytes of its own.
pub record HoldsArchives (c : Contents) : Type 0 where
  -- a version has an archive exactly where it lives
  pub lives : (k : Pair) → is_some (at c.held k) ≡ is_some (at c.versions k)
  pub stored : HeldAreStored c
  -- an archive is some version's
  pub had : (n : ℤ) (a : Archive) → at c.archives n ≡ Some a → (k : Pair) × (at c.held k ≡ Some n)
  pub integrity : (n : ℤ) (a : Archive) → at c.archives n ≡ Some a → a.integrity ≡ integrity_text a.bytes
  -- the same bytes occur once
  pub once : (m n : ℤ) (a b : Archive) → at c.archives m ≡ Some a → at c.archives n ≡ Some b → a.bytes ≡ b.bytes → m ≡ n
  pub bare : (k : Pair) (row : LiveVersion) → at c.versions k ≡ Some row → row.archive ≡ []
