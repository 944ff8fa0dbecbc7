-- What the statements of a migration make and show.
use Rattle.std.proofs.Common.{◌≡◌, ◌∙◌, ℕ, ℤ, List, [], ◌∷◌, Option, None, Some, Ok, map, option_map, slice_get, pos, codes, refl, sym, ap}
use Rattle.std.proofs.lemmas.Simd.{map-map}
use Rattle.sqlite.specs.declared.types.Value.TheVariants.{Int, Blob, Text as Stored}
use Rattle.sqlite.specs.Listing.{understood}
use Rattle.sqlite.specs.State.{State as Shown, HasCleanDisk}
use Rattle.sqlite_tied.specs.Compute.{everything}
use Rattle.sqlite_value.specs.Order.{Row}
use Rattle.sqlite_sql.specs.Term.{col}
use Rattle.registry_names.specs.Keys.{Pair}
use Rattle.registry_names.specs.Texts.{Text}
use Rattle.registry_names.specs.Maps.{at, entries, erase, keys, seen}
use Rattle.registry_rows.specs.Frames.{Wrote}
use Rattle.registry_rows.specs.Ready.{Ready, Leaves, Reads, Queried}
use Rattle.registry_rows.specs.Statements.{Means, MeansQuery, IsUncascaded, delete_where, select_where, update_where, by_texts, in_order}
use Rattle.registry_rows.specs.TextKeys.{Texts}
use Rattle.registry_rows.proofs.LookUpFacts.{first_listed, select_all, select_finds}
use Rattle.registry_rows.proofs.StatementFacts.{delete_erases, update_puts, update_revises}
use Rattle.registry_tables.specs.Contents.{LiveVersion, contents}
use Rattle.registry_tables.specs.Effects.{stored}
use Rattle.registry_tables.specs.Fresh.{schema_key, schema_number, with_number}
use Rattle.registry_tables.specs.Schema as table
use Rattle.registry_tables.specs.Schema.{schema}
use Rattle.registry_tables.specs.Spelled.{blob_of_row}
use Rattle.registry_tables.specs.Teams.{text_spelled}
use Rattle.registry_tables.proofs.MappedFacts.{needs_mapped, versions_mapped}
use Rattle.registry_tables.proofs.MetaFacts.{meta_mapped}
use Rattle.registry_migration.specs.Moved.{bare, without_bytes}
use Rattle.registry_migration.specs.Steps.{key_spelled, target_spelled}

-- ---- the live versions

abbrev versions_text : List ℕ
versions_text = codes "SELECT package, version FROM versions ORDER BY package, version"

versions_means : MeansQuery schema versions_text (select_where table.versions (col 1 1 ∷ col 1 2 ∷ []) [] (in_order 1 1) (codes "package" ∷ codes "version" ∷ []))
unfolding understood everything
versions_means = ((refl, (refl, refl)), refl)

abbrev key_alone : Row → Pair × Unit {0}
key_alone r = (key_spelled r, tt)

pub versions_listed : (old new : Shown) (rows : List Row) → Ready schema old → Queried versions_text [] old new rows → HasCleanDisk new
    → Reads schema old new × (map key_spelled rows ≡ keys (entries (stored old).versions))
versions_listed old new rows form call clean =
    let it = select_all versions_mapped versions_text (col 1 1 ∷ col 1 2 ∷ []) _ versions_means key_alone (λ (r : LiveVersion). tt) (λ id vs. refl) old new rows form call clean in (
      it.0,
      sym (map-map (λ (e : Pair × Unit {0}). e.0) key_alone rows) ∙ ap keys it.1 ∙ map-map (λ (e : Pair × Unit {0}). e.0) (seen (λ (r : LiveVersion). tt)) (entries (stored old).versions),
    )

-- ---- one of them

abbrev archive_text : List ℕ
archive_text = codes "SELECT archive FROM versions WHERE package = ?1 AND version = ?2"

archive_means : MeansQuery schema archive_text (select_where table.versions (col 1 6 ∷ []) (by_texts 1 1 0) [] (codes "archive" ∷ []))
unfolding understood everything
archive_means = ((refl, (refl, refl)), refl)

pub archive_found : (p v : Text) (old new : Shown) (rows : List Row) → Ready schema old → Queried archive_text (Stored p ∷ Stored v ∷ []) old new rows → HasCleanDisk new
    → Reads schema old new × (option_map blob_of_row (slice_get rows 0) ≡ option_map (λ (r : LiveVersion). r.archive) (at (stored old).versions (p, v)))
archive_found p v old new rows form call clean =
    let it = select_finds versions_mapped archive_text (col 1 6 ∷ []) _ archive_means (p, v) blob_of_row (λ (r : LiveVersion). r.archive) (λ id vs. refl) old new rows form call clean in
    (it.0, first_listed blob_of_row rows _ it.1)

abbrev manifest_text : List ℕ
manifest_text = codes "SELECT manifest FROM versions WHERE package = ?1 AND version = ?2"

manifest_means : MeansQuery schema manifest_text (select_where table.versions (col 1 4 ∷ []) (by_texts 1 1 0) [] (codes "manifest" ∷ []))
unfolding understood everything
manifest_means = ((refl, (refl, refl)), refl)

pub manifest_found : (p v : Text) (old new : Shown) (rows : List Row) → Ready schema old → Queried manifest_text (Stored p ∷ Stored v ∷ []) old new rows → HasCleanDisk new
    → Reads schema old new × (option_map text_spelled (slice_get rows 0) ≡ option_map (λ (r : LiveVersion). r.manifest) (at (stored old).versions (p, v)))
manifest_found p v old new rows form call clean =
    let it = select_finds versions_mapped manifest_text (col 1 4 ∷ []) _ manifest_means (p, v) text_spelled (λ (r : LiveVersion). r.manifest) (λ id vs. refl) old new rows form call clean in
    (it.0, first_listed text_spelled rows _ it.1)

abbrev clear_text : List ℕ
clear_text = codes "UPDATE versions SET archive = ?3 WHERE package = ?1 AND version = ?2"

-- all stays but the archive, which is the third parameter
abbrev clear_sets : List (Option ℕ)
clear_sets = None ∷ None ∷ None ∷ None ∷ None ∷ Some 2 ∷ []

clear_means : Means schema clear_text (update_where 9 table.versions clear_sets (by_texts 1 1 0))
unfolding understood everything
clear_means = (refl, (refl, refl))

pub archive_cleared : (p v : Text) (old new : Shown) → Ready schema old → Wrote clear_text (Stored p ∷ Stored v ∷ Blob [] ∷ []) old new → HasCleanDisk new
    → Leaves schema contents (record (stored old) { versions = without_bytes (stored old).versions (p, v) }) new
archive_cleared p v old new form call =
    update_revises versions_mapped clear_text clear_sets clear_means refl (p, v) (Blob [] ∷ []) refl bare (λ vs. refl) (λ vs. refl) old new (Ok call.0) form call.1

-- ---- needs without their ranges

abbrev targets_text : List ℕ
targets_text = codes "SELECT package, version, target FROM needs ORDER BY package, version, target"

targets_means : MeansQuery schema targets_text (select_where table.needs (col 1 1 ∷ col 1 2 ∷ col 1 3 ∷ []) [] (in_order 2 1) (codes "package" ∷ codes "version" ∷ codes "target" ∷ []))
unfolding understood everything
targets_means = ((refl, (refl, refl)), refl)

abbrev target_alone : Row → Texts 2 × Unit {0}
target_alone r = (target_spelled r, tt)

pub targets_listed : (old new : Shown) (rows : List Row) → Ready schema old → Queried targets_text [] old new rows → HasCleanDisk new
    → Reads schema old new × (map target_spelled rows ≡ keys (entries (stored old).needs))
targets_listed old new rows form call clean =
    let it = select_all needs_mapped targets_text (col 1 1 ∷ col 1 2 ∷ col 1 3 ∷ []) _ targets_means target_alone (λ u. tt) (λ id vs. refl) old new rows form call clean in (
      it.0,
      sym (map-map (λ (e : Texts 2 × Unit {0}). e.0) target_alone rows) ∙ ap keys it.1 ∙ map-map (λ (e : Texts 2 × Unit {0}). e.0) (seen (λ (u : Unit {0}). tt)) (entries (stored old).needs),
    )

abbrev drop_text : List ℕ
drop_text = codes "DELETE FROM needs WHERE package = ?1 AND version = ?2 AND target = ?3"

drop_means : Means schema drop_text (delete_where 12 table.needs (by_texts 2 1 0))
unfolding understood everything
drop_means = (refl, (refl, refl))

nothing_refers : IsUncascaded schema table.needs
unfolding everything
nothing_refers olds = refl

pub target_dropped : (p v target : Text) (old new : Shown) → Ready schema old → Wrote drop_text (Stored p ∷ Stored v ∷ Stored target ∷ []) old new → HasCleanDisk new
    → Leaves schema contents (record (stored old) { needs = erase (stored old).needs (p, (v, target)) }) new
target_dropped p v target old new form call = delete_erases needs_mapped drop_text drop_means nothing_refers (p, (v, target)) old new (Ok call.0) form call.1

-- ---- the number

abbrev number_text : List ℕ
number_text = codes "UPDATE meta SET value = ?2 WHERE name = ?1"

abbrev number_sets : List (Option ℕ)
number_sets = None ∷ Some 1 ∷ []

number_means : Means schema number_text (update_where 13 table.meta number_sets (by_texts 0 1 0))
unfolding understood everything
number_means = (refl, (refl, refl))

-- it is put where there was one
pub number_put : (n : ℤ) (old new : Shown) → at (stored old).meta schema_key ≡ Some n → Ready schema old → Wrote number_text (Stored schema_key ∷ Int (pos schema_number) ∷ []) old new → HasCleanDisk new
    → Leaves schema contents (with_number (stored old) schema_number) new
number_put n old new there form call =
    update_puts meta_mapped number_text number_sets number_means refl schema_key (Int (pos schema_number) ∷ []) refl (λ m. pos schema_number) (λ vs. refl) (λ vs. refl) old new n there (Ok call.0) form call.1
