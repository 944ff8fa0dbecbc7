-- What the statements on archives make and show.
use Rattle.registry_tables.proofs.Words.{◌≡◌, ℕ, ℤ, ◌+◌, ◌<◌, List, [], ◌∷◌, length, drop, get_or, map, filter, Bool, true, false, cond, ◌&&◌, Some, None, option_map, Ok, refl, sym, ap, ◌∙◌}
use Rattle.registry_tables.proofs.Words.{codes, find, drop_more, option_map_id, Null, Int, Blob, Stored, Shown, HasCleanDisk, Row, column, lit, col, Text, is, at, put, entries, seen, blob_in}
use Rattle.registry_tables.proofs.Words.{TakesNext, Wrote, numbers, Ready, Leaves, Reads, Queried, Means, MeansQuery, insert_values, select_where, by_column, by_texts, by_number_given}
use Rattle.registry_tables.proofs.Words.{first_listed, select_finds, select_finds_by, select_has_by, insert_puts, insert_meets_none, is_archive, number_of, Archive, contents, archive_in, stored}
use Rattle.registry_tables.proofs.Words.{schema, archive_spelled, blob_of_row, held_spelled, number_among, ShowsFirst, with_archive, next_archive, archive_number, unwrap_or, is_some}
use Rattle.registry_tables.proofs.Words.{if◌then◌else◌, Contents}
use Rattle.std.proofs.Common.{Option}
use Rattle.registry_tables.specs.Archives.{with_next_archive}
use Rattle.sqlite.specs.Listing.{understood}
use Rattle.sqlite_tied.specs.Compute.{everything}
use Rattle.registry_rows.proofs.CountFacts.{insert_numbers}
use Rattle.registry_tables.specs.Schema as table
use Rattle.registry_tables.proofs.MappedFacts.{archives_counted, archives_numbered, held_mapped}

-- ---- INSERT of an archive

abbrev put_text : List ℕ
put_text = codes "INSERT INTO archives (integrity, bytes) VALUES (?1, ?2)"

put_means : Means schema put_text (insert_values 15 (lit Null ∷ col 0 0 ∷ col 0 1 ∷ []))
unfolding understood everything
put_means = (refl, (refl, refl))

pub archive_put : (integrity : Text) (bytes : List ℕ) (old new : Shown) → Ready schema old → Wrote put_text (Stored integrity ∷ Blob bytes ∷ []) old new → HasCleanDisk new
    → TakesNext schema contents table.archives archive_in (λ c m. record c { archives = m }) table.counters.tree (λ c n. record c { last_archive = Some (Int n) }) (Stored integrity ∷ Blob bytes ∷ []) old new
archive_put integrity bytes old new form call = insert_numbers archives_numbered archives_counted put_text _ put_means (Stored integrity ∷ Blob bytes ∷ []) refl old new (Ok call.0) form call.1

-- ---- SELECT by integrity

abbrev list_text : List ℕ
list_text = codes "SELECT id, bytes FROM archives WHERE integrity = ?1 ORDER BY id"

pub list_means : MeansQuery schema list_text (select_where table.archives (col 1 0 ∷ col 1 3 ∷ []) (by_column 1) numbers.order (codes "id" ∷ codes "bytes" ∷ []))
unfolding understood everything
list_means = ((refl, (refl, refl)), refl)

abbrev bytes_of : Archive → List ℕ
bytes_of a = a.bytes

-- of the archives of one integrity, the first with these bytes
first_whole : (integrity : Text) (bytes : List ℕ) (es : List (ℤ × Archive))
    → option_map (λ (e : ℤ × List ℕ). e.0) (find (λ (e : ℤ × List ℕ). is bytes e.1) (map (seen bytes_of) (filter (λ (e : ℤ × Archive). is integrity e.1.integrity) es)))
    ≡ option_map (λ (e : ℤ × Archive). e.0) (find (λ (e : ℤ × Archive). is_archive integrity bytes e.1) es)
first_whole integrity bytes [] = refl
first_whole integrity bytes (e ∷ es) = each (is integrity e.1.integrity) (is bytes e.1.bytes) refl refl (first_whole integrity bytes es)
  where
    each : (a b : Bool) → is integrity e.1.integrity ≡ a → is bytes e.1.bytes ≡ b
        → option_map (λ (e : ℤ × List ℕ). e.0) (find (λ (e : ℤ × List ℕ). is bytes e.1) (map (seen bytes_of) (filter (λ (e : ℤ × Archive). is integrity e.1.integrity) es)))
        ≡ option_map (λ (e : ℤ × Archive). e.0) (find (λ (e : ℤ × Archive). is_archive integrity bytes e.1) es)
        → option_map (λ (e : ℤ × List ℕ). e.0) (find (λ (e : ℤ × List ℕ). is bytes e.1) (map (seen bytes_of) (cond (is integrity e.1.integrity) (e ∷ filter (λ (e : ℤ × Archive). is integrity e.1.integrity) es) (filter (λ (e : ℤ × Archive). is integrity e.1.integrity) es))))
        ≡ option_map (λ (e : ℤ × Archive). e.0) (cond (is integrity e.1.integrity && is bytes e.1.bytes) (Some e) (find (λ (e : ℤ × Archive). is_archive integrity bytes e.1) es))
    each true true p q rest = rw (p, q) refl
    each true false p q rest = rw (p, q) rest
    each false b p q rest = rw p rest

pub archive_listed : (integrity : Text) (bytes : List ℕ) (old new : Shown) (rows : List Row) → Ready schema old → Queried list_text (Stored integrity ∷ []) old new rows → HasCleanDisk new
    → Reads schema old new × (number_among bytes (map archive_spelled rows) ≡ number_of integrity bytes (stored old).archives)
archive_listed integrity bytes old new rows form call clean =
    let it = select_has_by (by_number_given archives_numbered) 1 (Stored integrity) refl (λ (a : Archive). is integrity a.integrity) (λ vs. refl) list_text (col 1 0 ∷ col 1 3 ∷ []) _ list_means
    archive_spelled bytes_of (λ id vs. refl) old new rows form call clean in
    (it.0, ap (number_among bytes) it.1 ∙ first_whole integrity bytes (entries (stored old).archives))

-- an archive with other bytes is passed over
pub among_next : (bytes : List ℕ) (rows : List Row) (i : ℕ) (r : Row) → i < length rows → r ≡ get_or rows i r → is bytes (blob_in (column r 1)) ≡ false
    → number_among bytes (map archive_spelled (drop i rows)) ≡ number_among bytes (map archive_spelled (drop (i + 1) rows))
among_next bytes rows i r within is_row other =
    ap (λ l. number_among bytes (map archive_spelled l)) (drop_more rows i r within ∙ ap (λ (x : Row). x ∷ drop (i + 1) rows) (sym is_row))
    ∙ ap (λ b. option_map (λ (e : ℤ × List ℕ). e.0) (cond b (Some (archive_spelled r)) (find (λ (e : ℤ × List ℕ). is bytes e.1) (map archive_spelled (drop (i + 1) rows))))) other

-- ---- SELECT by number

abbrev bytes_text : List ℕ
bytes_text = codes "SELECT bytes FROM archives WHERE id = ?1"

pub bytes_means : MeansQuery schema bytes_text (select_where table.archives (col 1 3 ∷ []) numbers.wanted [] (codes "bytes" ∷ []))
unfolding understood everything
bytes_means = ((refl, (refl, refl)), refl)

pub bytes_found : (n : ℤ) (old new : Shown) → ShowsFirst bytes_text (Int n ∷ []) old new blob_of_row (λ c. option_map bytes_of (at c.archives n))
bytes_found n old new rows form call clean =
    let it = select_finds_by (by_number_given archives_numbered) bytes_text (col 1 3 ∷ []) _ bytes_means n blob_of_row bytes_of (λ id vs. refl) old new rows form call clean in
    (it.0, first_listed blob_of_row rows _ it.1)

-- ---- which archive a version has

abbrev hold_text : List ℕ
hold_text = codes "INSERT INTO held VALUES (?1, ?2, ?3)"

hold_means : Means schema hold_text (insert_values 14 (col 0 0 ∷ col 0 1 ∷ col 0 2 ∷ []))
unfolding understood everything
hold_means = (refl, (refl, refl))

pub archive_held : (p v : Text) (n : ℤ) (old new : Shown) → Ready schema old → Wrote hold_text (Stored p ∷ Stored v ∷ Int n ∷ []) old new → HasCleanDisk new
    → Leaves schema contents (record (stored old) { held = put (stored old).held (p, v) n }) new
archive_held p v n old new form call = insert_puts held_mapped hold_text _ hold_means (Stored p ∷ Stored v ∷ Int n ∷ []) refl old new (Ok call.0) form call.1

-- an answered INSERT had a new key
pub held_was_new : (p v : Text) (n : ℤ) (old new : Shown) → Ready schema old → Wrote hold_text (Stored p ∷ Stored v ∷ Int n ∷ []) old new → HasCleanDisk new → at (stored old).held (p, v) ≡ None
held_was_new p v n old new form call = insert_meets_none held_mapped hold_text _ hold_means (Stored p ∷ Stored v ∷ Int n ∷ []) refl old new (Ok call.0) form call.1

abbrev held_text : List ℕ
held_text = codes "SELECT archive FROM held WHERE package = ?1 AND version = ?2"

pub held_means : MeansQuery schema held_text (select_where table.held (col 1 3 ∷ []) (by_texts 1 1 0) [] (codes "archive" ∷ []))
unfolding understood everything
held_means = ((refl, (refl, refl)), refl)

pub held_found : (p v : Text) (old new : Shown) → ShowsFirst held_text (Stored p ∷ Stored v ∷ []) old new held_spelled (λ c. at c.held (p, v))
held_found p v old new rows form call clean =
    let it = select_finds held_mapped held_text (col 1 3 ∷ []) _ held_means (p, v) held_spelled (λ (n : ℤ). n) (λ id vs. refl) old new rows form call clean in
    (it.0, first_listed held_spelled rows _ it.1 ∙ option_map_id (at (stored old).held (p, v)))

-- ---- an archive that is there, or is added

module _ (integrity : Text) (bytes : List ℕ) (c : Contents) where
  -- storing it, by the number that is found
  abbrev stored_by : Option ℤ → Contents
  stored_by o = record c {
    archives = if is_some o then c.archives else put c.archives (next_archive c) (record { integrity = integrity; bytes = bytes });
    last_archive = if is_some o then c.last_archive else Some (Int (next_archive c));
  }

  pub is_there : (n : ℤ) → number_of integrity bytes c.archives ≡ Some n → (c ≡ with_archive integrity bytes c) × (n ≡ archive_number integrity bytes c)
  is_there n e = (ap stored_by (sym e), ap (λ o. unwrap_or o (next_archive c)) (sym e))

  pub is_added : number_of integrity bytes c.archives ≡ None → (with_next_archive integrity bytes c ≡ with_archive integrity bytes c) × (next_archive c ≡ archive_number integrity bytes c)
  is_added e = (ap stored_by (sym e), ap (λ o. unwrap_or o (next_archive c)) (sym e))
