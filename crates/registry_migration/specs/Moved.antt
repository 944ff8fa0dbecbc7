-- Archives that are moved out of the rows of their versions, and in which order they are numbered.
use Rattle.std.specs.Prelude.{◌≡◌, List, [], ◌∷◌, ℕ, option_map, unwrap_or, if◌then◌else◌}
use Rattle.registry_names.specs.Keys.{Pair, pair_is}
use Rattle.registry_names.specs.Maps.{PairMap, at, entries, keys, put, revise}
use Rattle.registry_publish.specs.Integrity.{integrity_text}
use Rattle.registry_tables.specs.Archives.{archive_number, with_archive}
use Rattle.registry_tables.specs.Contents.{Contents, LiveVersion}

abbrev pub bare : LiveVersion → LiveVersion
bare release = record release { archive = [] }

-- the version's row has no bytes
abbrev pub without_bytes : PairMap LiveVersion → Pair → PairMap LiveVersion
without_bytes live q = revise live (λ k release. if pair_is q k then bare release else release)

-- the version has these bytes as its archive, which is stored, and its row has none
abbrev pub archive_moved : Pair → List ℕ → Contents → Contents
archive_moved k bytes c = record (with_archive (integrity_text bytes) bytes c) {
  versions = without_bytes c.versions k;
  held = put c.held k (archive_number (integrity_text bytes) bytes c);
}

-- the bytes in the version's row
abbrev pub row_archive : Contents → Pair → List ℕ
row_archive c k = unwrap_or (option_map (λ (r : LiveVersion). r.archive) (at c.versions k)) []

-- the archives of these versions are moved, one after another
abbrev pub archives_moved : List Pair → Contents → Contents
archives_moved [] c = c
archives_moved (k ∷ ks) c = archives_moved ks (archive_moved k (row_archive c k) c)

-- The archives have the numbers that they get one after another, in the order of their versions: by
-- package, and then by version, each in byte order. So of two archives the one has the lower number
-- whose first version comes first
abbrev pub AreNumberedInOrder : Contents → Contents → Type 0
AreNumberedInOrder before after =
    (after.archives ≡ (archives_moved (keys (entries before.versions)) before).archives)
    × (after.held ≡ (archives_moved (keys (entries before.versions)) before).held)
