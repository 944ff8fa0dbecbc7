-- The laws at texts, as their users cite them: two tables, one of them counted, and an index.
use Rattle.std.proofs.Common.{◌≡◌, ℕ, ℤ, List, [], ◌∷◌, map, filter, true, false, codes, Option, Some, option_map, Result, OnOk, refl}
use Rattle.sqlite.specs.declared.types.Value.{Value}
use Rattle.sqlite.specs.declared.types.Value.TheVariants.{Null, Int, Blob, Text as Stored}
use Rattle.sqlite_value.specs.Order.{Row, column}
use Rattle.sqlite_value.specs.Keys.{plain}
use Rattle.sqlite_trees.specs.Tree.{Trees}
use Rattle.sqlite_sql.specs.Term.{lit, col}
use Rattle.sqlite_schema.specs.declared.schema.Table.{Table}
use Rattle.sqlite_schema.specs.declared.schema.Index.{Index}
use Rattle.sqlite_schema.specs.declared.schema.Schema.{Schema}
use Rattle.sqlite.specs.Listing.{understood}
use Rattle.sqlite.specs.declared.error.Error.{Error}
use Rattle.sqlite.specs.State.{State, HasCleanDisk}
use Rattle.sqlite_tied.specs.Compute.{everything}
use Rattle.registry_names.specs.Texts.{Text, is}
use Rattle.registry_names.specs.Maps.{at, put, erase, entries, seen}
use Rattle.registry_rows.specs.Columns.{text_column, blob_column, text_in, blob_in, int_in}
use Rattle.registry_rows.specs.Tables.{keyed_table, numbered_table, sequence_table, key_index}
use Rattle.registry_rows.specs.TextKeys.{places_from}
use Rattle.registry_rows.specs.KeyKinds.{BytesMap, NumberMap, bytes, numbers, map_by}
use Rattle.registry_rows.specs.Rows.{listed}
use Rattle.registry_rows.specs.Statements.{Means, MeansQuery, MeansFirstCounted, MeansIndex, insert_values, delete_where, select_where, by_column}
use Rattle.registry_rows.specs.Ready.{Ready, Blank, Leaves, Reads, Executed, Queried, DependsOn, IsMappedByBytes, IsNumbered}
use Rattle.registry_rows.specs.Counting.{IsCounted, TakesNext, count_value, other_counts}
use Rattle.registry_rows.proofs.CreateFacts.{create_adds_counter, index_keeps_blank}
use Rattle.registry_rows.proofs.KeyedFacts.{by_bytes_given, by_number_given}
use Rattle.registry_rows.proofs.StatementFacts.{insert_puts_bytes, delete_erases_by}
use Rattle.registry_rows.proofs.LookUpFacts.{select_finds_by, select_has_by}
use Rattle.registry_rows.proofs.CountFacts.{insert_numbers}

-- ---- the schema: badges by their bytes, and counted notes

abbrev badges : Table
badges = keyed_table (codes "badges") 0 (blob_column (codes "code") ∷ text_column (codes "owner") ∷ []) (places_from 0 1) []

abbrev notes : Table
notes = numbered_table true (codes "notes") 2 (codes "id") (text_column (codes "title") ∷ blob_column (codes "body") ∷ []) []

abbrev by_title : Index
by_title = record { name = codes "notes_by_title"; tree = 4; table = 2; columns = 2 ∷ []; order = plain; is_unique = false }

abbrev before : Schema
before = record { tables = badges ∷ []; indexes = key_index badges ∷ []; views = [] }

abbrev unindexed : Schema
unindexed = record { tables = badges ∷ notes ∷ sequence_table 3 ∷ []; indexes = key_index badges ∷ []; views = [] }

abbrev schema : Schema
schema = record unindexed { indexes = key_index badges ∷ by_title ∷ [] }

-- ---- what it holds

record Note : Type 0 where
  title : Text
  body : List ℕ

abbrev note_in : Row → Note
note_in vs = record { title = text_in (column vs 1); body = blob_in (column vs 2) }

abbrev owner_in : Row → Text
owner_in vs = text_in (column vs 1)

record Contents : Type 0 where
  owners : BytesMap Text
  notes_held : NumberMap Note
  -- the highest number that a note has had, and what else sqlite_sequence has
  last_note : Option Value
  other_counters : List Row

abbrev contents : Trees → Contents
contents db = record { owners = map_by bytes owner_in (db 0); notes_held = map_by numbers note_in (db 2); last_note = count_value (codes "notes") (db 3); other_counters = other_counts (codes "notes") (db 3) }

contents_depend : DependsOn schema contents
contents_depend old new (owners_same, (notes_same, (counts_same, none))) =
    λ i. record { owners = map_by bytes owner_in (owners_same i); notes_held = map_by numbers note_in (notes_same i); last_note = count_value (codes "notes") (counts_same i); other_counters = other_counts (codes "notes") (counts_same i) }

badges_mapped : IsMappedByBytes schema contents 0 badges owner_in (λ c m. record c { owners = m })
badges_mapped = record { found = refl; shape = refl; index = 0; indexed = refl; plain = refl; begins = refl; depends = contents_depend; alone = λ db rows. refl }

notes_numbered : IsNumbered schema contents 1 notes note_in (λ c m. record c { notes_held = m })
notes_numbered = record { found = refl; shape = refl; plain = refl; depends = contents_depend; alone = λ db rows. refl }

notes_counted : IsCounted schema contents notes 3 (λ c n. record c { last_note = Some (Int n) })
unfolding everything
notes_counted = record { counts = refl; sequence_is = refl; apart = refl; quiet = refl; counting = λ db rows n counts rest i. record (contents db) { last_note = counts i; other_counters = rest i } }

-- ---- CREATE

abbrev notes_text : List ℕ
notes_text = codes "CREATE TABLE notes (id INTEGER PRIMARY KEY AUTOINCREMENT, title TEXT NOT NULL, body BLOB NOT NULL) STRICT"

notes_means : MeansFirstCounted before notes_text (record notes { tree = 0 })
unfolding understood everything
notes_means = record { command = (refl, (refl, refl)); text = refl; defined = refl; first = refl }

notes_made : (old new : State) (r : Result ℕ Error) → (HasCleanDisk old → Blank before old) → Executed notes_text [] old new r → HasCleanDisk new → OnOk r (Blank unindexed new)
notes_made = create_adds_counter before notes_text (record notes { tree = 0 }) notes_means

abbrev index_text : List ℕ
index_text = codes "CREATE INDEX notes_by_title ON notes (title)"

index_means : MeansIndex unindexed index_text 1 notes (record by_title { tree = 0 })
unfolding understood everything
index_means = record { command = (refl, (refl, refl)); text = refl; found = refl; defined = refl }

index_made : (old new : State) (r : Result ℕ Error) → (HasCleanDisk old → Blank unindexed old) → Executed index_text [] old new r → HasCleanDisk new → OnOk r (Blank schema new)
index_made = index_keeps_blank unindexed index_text 1 notes (record by_title { tree = 0 }) index_means

-- ---- notes

abbrev put_text : List ℕ
put_text = codes "INSERT INTO notes (title, body) VALUES (?1, ?2)"

put_means : Means schema put_text (insert_values 1 (lit Null ∷ col 0 0 ∷ col 0 1 ∷ []))
unfolding understood everything
put_means = (refl, (refl, refl))

note_put : (title : Text) (body : List ℕ) (old new : State) (r : Result ℕ Error) → Ready schema old → Executed put_text (Stored title ∷ Blob body ∷ []) old new r → HasCleanDisk new
    → OnOk r (TakesNext schema contents notes note_in (λ c m. record c { notes_held = m }) 3 (λ c n. record c { last_note = Some (Int n) }) (Stored title ∷ Blob body ∷ []) old new)
note_put title body = insert_numbers notes_numbered notes_counted put_text (col 0 0 ∷ col 0 1 ∷ []) put_means (Stored title ∷ Blob body ∷ []) refl

abbrev body_text : List ℕ
body_text = codes "SELECT body FROM notes WHERE id = ?1"

body_means : MeansQuery schema body_text (select_where notes (col 1 3 ∷ []) numbers.wanted [] (codes "body" ∷ []))
unfolding understood everything
body_means = ((refl, (refl, refl)), refl)

body_found : (id : ℤ) (old new : State) (rows : List Row) → Ready schema old → Queried body_text (Int id ∷ []) old new rows → HasCleanDisk new
    → Reads schema old new × (map (λ r. blob_in (column r 0)) rows ≡ listed (option_map (λ (n : Note). n.body) (at (contents old.now.trees).notes_held id)))
body_found id = select_finds_by (by_number_given notes_numbered) body_text (col 1 3 ∷ []) _ body_means id (λ r. blob_in (column r 0)) (λ (n : Note). n.body) (λ i vs. refl)

abbrev titled_text : List ℕ
titled_text = codes "SELECT id, body FROM notes WHERE title = ?1 ORDER BY id"

titled_means : MeansQuery schema titled_text (select_where notes (col 1 0 ∷ col 1 3 ∷ []) (by_column 1) numbers.order (codes "id" ∷ codes "body" ∷ []))
unfolding understood everything
titled_means = ((refl, (refl, refl)), refl)

titled_found : (title : Text) (old new : State) (rows : List Row) → Ready schema old → Queried titled_text (Stored title ∷ []) old new rows → HasCleanDisk new
    → Reads schema old new × (map (λ r. (int_in (column r 0), blob_in (column r 1))) rows ≡ map (seen (λ (n : Note). n.body)) (filter (λ (e : ℤ × Note). is title e.1.title) (entries (contents old.now.trees).notes_held)))
titled_found title = select_has_by (by_number_given notes_numbered) 1 (Stored title) refl (λ (n : Note). is title n.title) (λ vs. refl) titled_text (col 1 0 ∷ col 1 3 ∷ []) _ titled_means
    (λ r. (int_in (column r 0), blob_in (column r 1))) (λ (n : Note). n.body) (λ i vs. refl)

abbrev drop_text : List ℕ
drop_text = codes "DELETE FROM notes WHERE id = ?1"

drop_means : Means schema drop_text (delete_where 1 notes numbers.wanted)
unfolding understood everything
drop_means = (refl, (refl, refl))

note_dropped : (id : ℤ) (old new : State) (r : Result ℕ Error) → Ready schema old → Executed drop_text (Int id ∷ []) old new r → HasCleanDisk new
    → OnOk r (Leaves schema contents (record (contents old.now.trees) { notes_held = erase (contents old.now.trees).notes_held id }) new)
note_dropped id = delete_erases_by (by_number_given notes_numbered) drop_text drop_means (λ olds. refl) id

-- ---- badges

abbrev badge_text : List ℕ
badge_text = codes "INSERT INTO badges VALUES (?1, ?2)"

badge_means : Means schema badge_text (insert_values 0 (col 0 0 ∷ col 0 1 ∷ []))
unfolding understood everything
badge_means = (refl, (refl, refl))

badge_put : (code : List ℕ) (owner : Text) (old new : State) (r : Result ℕ Error) → Ready schema old → Executed badge_text (Blob code ∷ Stored owner ∷ []) old new r → HasCleanDisk new
    → OnOk r (Leaves schema contents (record (contents old.now.trees) { owners = put (contents old.now.trees).owners code owner }) new)
badge_put code owner = insert_puts_bytes badges_mapped badge_text (col 0 0 ∷ col 0 1 ∷ []) badge_means (Blob code ∷ Stored owner ∷ []) refl

abbrev owner_text : List ℕ
owner_text = codes "SELECT owner FROM badges WHERE code = ?1"

owner_means : MeansQuery schema owner_text (select_where badges (col 1 2 ∷ []) bytes.wanted [] (codes "owner" ∷ []))
unfolding understood everything
owner_means = ((refl, (refl, refl)), refl)

owner_found : (code : List ℕ) (old new : State) (rows : List Row) → Ready schema old → Queried owner_text (Blob code ∷ []) old new rows → HasCleanDisk new
    → Reads schema old new × (map (λ r. text_in (column r 0)) rows ≡ listed (option_map (λ (o : Text). o) (at (contents old.now.trees).owners code)))
owner_found code = select_finds_by (by_bytes_given badges_mapped) owner_text (col 1 2 ∷ []) _ owner_means code (λ r. text_in (column r 0)) (λ o. o) (λ i vs. refl)
