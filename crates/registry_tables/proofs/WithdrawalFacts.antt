-- What the statements make that withdraw a version, and what goes with its row.
use Rattle.registry_tables.proofs.Words.{◌≡◌, ℕ, ℤ, List, [], ◌∷◌, pos, not, true≢false, None, Some, is_some, Ok, refl, sym, ap, ◌∙◌, codes, int_eq, Int, Stored, Delete, Shown}
use Rattle.registry_tables.proofs.Words.{HasCleanDisk, col, Text, pair_is, at, put, erase, keep, pair_key, at-erase_same, Wrote, numbers, Ready, Leaves, Means, MeansQuery, delete_where, select_first}
use Rattle.registry_tables.proofs.Words.{scan, by_column, by_texts, insert_values, by_number_given, by_texts_given, insert_puts, insert_meets_none, delete_erases_by, IsUntagged, Contents, contents}
use Rattle.registry_tables.proofs.Words.{stored, schema, is_held, without_rows, ShowsWhether}
use Rattle.sqlite.specs.Listing.{understood}
use Rattle.sqlite_tied.specs.Compute.{everything}
use Rattle.registry_names.proofs.ChangeFacts.{keep_but}
use Rattle.registry_laws_sql.specs.Cascades.{Child, IsChild, HasChildren, links, link_of}
use Rattle.registry_laws_sql.proofs.CascadeFacts.{mapped_child, delete_cascades}
use Rattle.registry_tables.specs.Schema as table
use Rattle.registry_tables.proofs.MappedFacts.{archives_numbered, held_mapped, need_ranges_mapped, needs_mapped, spent_mapped, versions_mapped}
use Rattle.registry_tables.proofs.ReferenceFacts.{named_lives}
use Rattle.registry_tables.proofs.SomeFacts.{select_some_by}

-- ---- what goes with a version: what it depends on, and its place among the archives

abbrev pub version_in_needs : Child Contents 1
version_in_needs = record { table = table.needs; places = (0, 1); erases = λ q c. record c { needs = keep c.needs (λ k. not (pair_is q (k.0, k.1.0))) } }

abbrev pub version_in_ranges : Child Contents 1
version_in_ranges = record { table = table.need_ranges; places = (0, 1); erases = λ q c. record c { need_ranges = keep c.need_ranges (λ k. not (pair_is q (k.0, k.1.0))) } }

abbrev pub version_in_held : Child Contents 1
version_in_held = record { table = table.held; places = (0, 1); erases = λ q c. record c { held = erase c.held q } }

quiet_needs : links schema 24 ≡ []
unfolding everything
quiet_needs = refl

quiet_ranges : links schema 33 ≡ []
unfolding everything
quiet_ranges = refl

quiet_held : links schema 28 ≡ []
unfolding everything
quiet_held = refl

versions_linked : links schema 18 ≡ link_of table.versions version_in_needs ∷ link_of table.versions version_in_held ∷ link_of table.versions version_in_ranges ∷ []
unfolding everything
versions_linked = refl

version_needs : IsChild schema contents version_in_needs
version_needs = mapped_child needs_mapped {rest = 1} (0, 1) refl quiet_needs _ (λ q db. refl)

version_ranges : IsChild schema contents version_in_ranges
version_ranges = mapped_child need_ranges_mapped {rest = 1} (0, 1) refl quiet_ranges _ (λ q db. refl)

version_held : IsChild schema contents version_in_held
version_held = mapped_child held_mapped {rest = 1} (0, 1) refl quiet_held _ (λ q db. ap (λ m. record (contents db) { held = m }) (keep_but pair_key (contents db).held q))

version_children : HasChildren schema contents table.versions (version_in_needs ∷ version_in_held ∷ version_in_ranges ∷ [])
version_children = record { linked = versions_linked; each = (version_needs, (version_held, (version_ranges, tt))) }

abbrev version_text : List ℕ
version_text = codes "DELETE FROM versions WHERE package = ?1 AND version = ?2"

version_means : Means schema version_text (Delete 9 (record { lets = []; body = scan 18 (by_texts 1 1 0) (col 1 0 ∷ []) [] }))
unfolding understood everything
version_means = (refl, (refl, refl))

pub version_dropped : (p v : Text) (old new : Shown) → Ready schema old → Wrote version_text (Stored p ∷ Stored v ∷ []) old new → HasCleanDisk new → Leaves schema contents (without_rows p v (stored old)) new
version_dropped p v old new form call = delete_cascades versions_mapped version_text version_means _ version_children (p, v) old new (Ok call.0) form call.1

-- no tag named it: after the deletion a tag still names a version that lives
pub version_untagged : (p v : Text) (old new : Shown) → Leaves schema contents (without_rows p v (stored old)) new → IsUntagged p v (stored old)
version_untagged p v old new left t named =
    let same : at (stored new).tags (p, t) ≡ Some v = ap (λ (c : Contents). at c.tags (p, t)) left.holds ∙ named in
    let lives = named_lives new left.ready p t v same in
    let gone : at (stored new).versions (p, v) ≡ None = ap (λ (c : Contents). at c.versions (p, v)) left.holds ∙ at-erase_same pair_key (stored old).versions (p, v) in
    absurd (true≢false (sym lives ∙ ap is_some gone))

-- ---- its archive

abbrev archive_text : List ℕ
archive_text = codes "DELETE FROM archives WHERE id = ?1"

archive_means : Means schema archive_text (delete_where 15 table.archives numbers.wanted)
unfolding understood everything
archive_means = (refl, (refl, refl))

-- nothing goes with an archive: a version that has it keeps it there
pub archive_dropped : (n : ℤ) (old new : Shown) → Ready schema old → Wrote archive_text (Int n ∷ []) old new → HasCleanDisk new
    → Leaves schema contents (record (stored old) { archives = erase (stored old).archives n }) new
unfolding everything
archive_dropped n old new form call = delete_erases_by (by_number_given archives_numbered) archive_text archive_means (λ olds. refl) n old new (Ok call.0) form call.1

abbrev holders_text : List ℕ
holders_text = codes "SELECT package FROM held WHERE archive = ?1 LIMIT 1"

pub holders_means : MeansQuery schema holders_text (select_first 1 table.held (col 1 1 ∷ []) (by_column 2) [] (codes "package" ∷ []))
unfolding understood everything
holders_means = ((refl, (refl, refl)), refl)

pub archive_had : (n : ℤ) (old new : Shown) → ShowsWhether holders_text (Int n ∷ []) old new (λ c. is_held n c)
archive_had n = select_some_by (by_texts_given held_mapped) 2 (Int n) refl (λ (m : ℤ). int_eq n m) (λ vs. refl) holders_text (col 1 1 ∷ []) _ holders_means

-- ---- among those that were withdrawn

abbrev put_text : List ℕ
put_text = codes "INSERT INTO spent VALUES (?1, ?2, ?3, ?4)"

put_means : Means schema put_text (insert_values 10 (col 0 0 ∷ col 0 1 ∷ col 0 2 ∷ col 0 3 ∷ []))
unfolding understood everything
put_means = (refl, (refl, refl))

pub withdrawal_put : (p v : Text) (published withdrawn : ℕ) (old new : Shown) → Ready schema old
    → Wrote put_text (Stored p ∷ Stored v ∷ Int (pos published) ∷ Int (pos withdrawn) ∷ []) old new → HasCleanDisk new
    → Leaves schema contents (record (stored old) { spent = put (stored old).spent (p, v) (record { published = pos published; withdrawn = pos withdrawn }) }) new
withdrawal_put p v published withdrawn old new form call = insert_puts spent_mapped put_text _ put_means (Stored p ∷ Stored v ∷ Int (pos published) ∷ Int (pos withdrawn) ∷ []) refl old new (Ok call.0) form call.1

-- an answered INSERT had a new key
pub withdrawal_was_new : (p v : Text) (published withdrawn : ℕ) (old new : Shown) → Ready schema old → Wrote put_text (Stored p ∷ Stored v ∷ Int (pos published) ∷ Int (pos withdrawn) ∷ []) old new → HasCleanDisk new → at (stored old).spent (p, v) ≡ None
withdrawal_was_new p v published withdrawn old new form call = insert_meets_none spent_mapped put_text _ put_means (Stored p ∷ Stored v ∷ Int (pos published) ∷ Int (pos withdrawn) ∷ []) refl old new (Ok call.0) form call.1
