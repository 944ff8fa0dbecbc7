-- What the statements on grants make and show.
use Rattle.registry_tables.proofs.Words.{ℕ, List, [], ◌∷◌, Some, None, is_some, Ok, refl, sym, ap, ◌∙◌, codes, Int, Stored, Delete, Select, Shown, HasCleanDisk, col, Text, at}
use Rattle.registry_tables.proofs.Words.{erase, pairs_of, parts, pair_key, triple_key, Grant, Wrote, Ready, Leaves, Means, MeansQuery, scan, by_texts, in_order, upsert_values, upsert_puts, put}
use Rattle.registry_tables.proofs.Words.{select_lists_two, delete_erases, schema, access_of, contents, stored, grant_number, grant_of, granted_spelled, grants_of, ShowsAll}
use Rattle.registry_tables.proofs.Words.{ShowsWhether}
use Rattle.sqlite.specs.Listing.{understood}
use Rattle.sqlite_tied.specs.Compute.{everything}
use Rattle.registry_tables.specs.Schema as table
use Rattle.registry_tables.proofs.FoundFacts.{there_found}
use Rattle.registry_tables.proofs.MappedFacts.{grants_mapped}
use Rattle.registry_tables.proofs.ReadFacts.{part-read, parts-read, some-read}

-- ---- INSERT, or UPDATE of what is granted

abbrev put_text : List ℕ
put_text = codes "INSERT INTO grants VALUES (?1, ?2, ?3, ?4) ON CONFLICT (org, team, package) DO UPDATE SET level = ?4"

put_means : Means schema put_text (upsert_values 7 table.grants (col 0 0 ∷ col 0 1 ∷ col 0 2 ∷ col 0 3 ∷ []) (Some (None ∷ None ∷ None ∷ Some 3 ∷ [])) 4)
unfolding understood everything
put_means = (refl, (refl, refl))

pub grant_put : (o t p : Text) (grant : Grant) (old new : Shown) → Ready schema old → Wrote put_text (Stored o ∷ Stored t ∷ Stored p ∷ Int (grant_number grant) ∷ []) old new → HasCleanDisk new
    → Leaves schema contents (record (stored old) { grants = put (stored old).grants (o, (t, p)) (grant_number grant) }) new
grant_put o t p grant old new form call = upsert_puts grants_mapped put_text _ (Some (None ∷ None ∷ None ∷ Some 3 ∷ [])) (Stored o ∷ Stored t ∷ Stored p ∷ Int (grant_number grant) ∷ [])
    (record { means = put_means; quiet = refl; plain = refl; inserts = refl; updates = refl; value_is = λ vs. refl; keeps_key = λ r. refl }) old new (Ok call.0) form call.1

-- ---- DELETE

abbrev drop_text : List ℕ
drop_text = codes "DELETE FROM grants WHERE org = ?1 AND team = ?2 AND package = ?3"

drop_means : Means schema drop_text (Delete 7 (record { lets = []; body = scan 14 (by_texts 2 1 0) (col 1 0 ∷ []) [] }))
unfolding understood everything
drop_means = (refl, (refl, refl))

-- nothing refers to a grant
pub grant_dropped : (o t p : Text) (old new : Shown) → Ready schema old → Wrote drop_text (Stored o ∷ Stored t ∷ Stored p ∷ []) old new → HasCleanDisk new
    → Leaves schema contents (record (stored old) { grants = erase (stored old).grants (o, (t, p)) }) new
unfolding everything
grant_dropped o t p old new form call = delete_erases grants_mapped drop_text drop_means (λ olds. refl) (o, (t, p)) old new (Ok call.0) form call.1

-- ---- SELECT

abbrev find_text : List ℕ
find_text = codes "SELECT level FROM grants WHERE org = ?1 AND team = ?2 AND package = ?3"

pub find_means : MeansQuery schema find_text (Select (record { lets = []; body = scan 14 (by_texts 2 1 0) (col 1 4 ∷ []) [] }) (codes "level" ∷ []))
unfolding understood everything
find_means = ((refl, (refl, refl)), refl)

pub grant_found : (o t p : Text) (old new : Shown) → ShowsWhether find_text (Stored o ∷ Stored t ∷ Stored p ∷ []) old new (λ c. is_some (at (access_of c).grants (o, (t, p))))
grant_found o t p old new rows form call clean =
    let it = there_found grants_mapped find_text (col 1 4 ∷ []) _ find_means (o, (t, p)) old new rows form call clean in
    (it.0, it.1 ∙ sym (some-read triple_key (stored old).grants (λ _ n. grant_of n) (o, (t, p))))

abbrev list_text : List ℕ
list_text = codes "SELECT package, level FROM grants WHERE org = ?1 AND team = ?2 ORDER BY package"

pub list_means : MeansQuery schema list_text (Select (record { lets = []; body = scan 14 (by_texts 1 1 0) (col 1 3 ∷ col 1 4 ∷ []) (in_order 0 3) }) (codes "package" ∷ codes "level" ∷ []))
unfolding understood everything
list_means = ((refl, (refl, refl)), refl)

pub grants_listed : (o t : Text) (old new : Shown) → ShowsAll list_text (Stored o ∷ Stored t ∷ []) old new granted_spelled (λ c. grants_of c o t)
grants_listed o t old new rows form call clean =
    let it = select_lists_two grants_mapped list_text _ _ list_means o t granted_spelled grant_of (λ id vs. refl) old new rows form call clean in
    (it.0, it.1 ∙ sym (ap (λ es. parts es t) (part-read pair_key (stored old).grants grant_of o) ∙ parts-read grant_of (pairs_of (stored old).grants o) t))
