-- What the statements on tags make and show.
use Rattle.registry_tables.proofs.Words.{ℕ, List, [], ◌∷◌, Some, None, is_some, Ok, refl, ◌∙◌, codes, option_map_id, Stored, col, Delete, Select, Shown, HasCleanDisk, Text, at}
use Rattle.registry_tables.proofs.Words.{erase, of, Wrote, Means, MeansQuery, scan, by_texts, in_order, upsert_values, upsert_puts, put, Ready, Leaves, delete_erases, select_finds, select_lists}
use Rattle.registry_tables.proofs.Words.{first_listed, seen_as_is, schema, contents, stored, tag_spelled, named_spelled, ShowsAll, ShowsFirst, ShowsWhether}
use Rattle.sqlite.specs.Listing.{understood}
use Rattle.sqlite_tied.specs.Compute.{everything}
use Rattle.registry_tables.specs.Schema as table
use Rattle.registry_tables.proofs.FoundFacts.{there_found}
use Rattle.registry_tables.proofs.MappedFacts.{tags_mapped}

-- ---- INSERT, or UPDATE of the version

abbrev put_text : List ℕ
put_text = codes "INSERT INTO tags VALUES (?1, ?2, ?3) ON CONFLICT (package, tag) DO UPDATE SET version = ?3"

put_means : Means schema put_text (upsert_values 11 table.tags (col 0 0 ∷ col 0 1 ∷ col 0 2 ∷ []) (Some (None ∷ None ∷ Some 2 ∷ [])) 3)
unfolding understood everything
put_means = (refl, (refl, refl))

pub tag_put : (p t v : Text) (old new : Shown) → Ready schema old → Wrote put_text (Stored p ∷ Stored t ∷ Stored v ∷ []) old new → HasCleanDisk new
    → Leaves schema contents (record (stored old) { tags = put (stored old).tags (p, t) v }) new
tag_put p t v old new form call = upsert_puts tags_mapped put_text _ (Some (None ∷ None ∷ Some 2 ∷ [])) (Stored p ∷ Stored t ∷ Stored v ∷ [])
    (record { means = put_means; quiet = refl; plain = refl; inserts = refl; updates = refl; value_is = λ vs. refl; keeps_key = λ r. refl }) old new (Ok call.0) form call.1

-- ---- DELETE

abbrev drop_text : List ℕ
drop_text = codes "DELETE FROM tags WHERE package = ?1 AND tag = ?2"

drop_means : Means schema drop_text (Delete 11 (record { lets = []; body = scan 22 (by_texts 1 1 0) (col 1 0 ∷ []) [] }))
unfolding understood everything
drop_means = (refl, (refl, refl))

-- nothing refers to a tag
pub tag_dropped : (p t : Text) (old new : Shown) → Ready schema old → Wrote drop_text (Stored p ∷ Stored t ∷ []) old new → HasCleanDisk new
    → Leaves schema contents (record (stored old) { tags = erase (stored old).tags (p, t) }) new
unfolding everything
tag_dropped p t old new form call = delete_erases tags_mapped drop_text drop_means (λ olds. refl) (p, t) old new (Ok call.0) form call.1

-- ---- SELECT

abbrev find_text : List ℕ
find_text = codes "SELECT version FROM tags WHERE package = ?1 AND tag = ?2"

pub find_means : MeansQuery schema find_text (Select (record { lets = []; body = scan 22 (by_texts 1 1 0) (col 1 3 ∷ []) [] }) (codes "version" ∷ []))
unfolding understood everything
find_means = ((refl, (refl, refl)), refl)

pub tag_found : (p t : Text) (old new : Shown) → ShowsWhether find_text (Stored p ∷ Stored t ∷ []) old new (λ c. is_some (at c.tags (p, t)))
tag_found p t = there_found tags_mapped find_text (col 1 3 ∷ []) _ find_means (p, t)

pub tag_named : (p t : Text) (old new : Shown) → ShowsFirst find_text (Stored p ∷ Stored t ∷ []) old new named_spelled (λ c. at c.tags (p, t))
tag_named p t old new rows form call clean =
    let it = select_finds tags_mapped find_text (col 1 3 ∷ []) _ find_means (p, t) named_spelled (λ (v : Text). v) (λ id vs. refl) old new rows form call clean in
    (it.0, first_listed named_spelled rows _ it.1 ∙ option_map_id (at (stored old).tags (p, t)))

abbrev list_text : List ℕ
list_text = codes "SELECT tag, version FROM tags WHERE package = ?1 ORDER BY tag"

pub list_means : MeansQuery schema list_text (Select (record { lets = []; body = scan 22 (by_texts 0 1 0) (col 1 2 ∷ col 1 3 ∷ []) (in_order 0 2) }) (codes "tag" ∷ codes "version" ∷ []))
unfolding understood everything
list_means = ((refl, (refl, refl)), refl)

pub tags_listed : (p : Text) (old new : Shown) → ShowsAll list_text (Stored p ∷ []) old new tag_spelled (λ c. of c.tags p)
tags_listed p old new rows form call clean =
    let it = select_lists tags_mapped list_text _ _ list_means p tag_spelled (λ (v : Text). v) (λ id vs. refl) old new rows form call clean in
    (it.0, it.1 ∙ seen_as_is (of (stored old).tags p))
