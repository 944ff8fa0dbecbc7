-- What the statements on organisations make and show.
use Rattle.registry_tables.proofs.Words.{◌≡◌, ℕ, List, [], ◌∷◌, is_some, None, Ok, refl, codes, Stored, Select, Shown, HasCleanDisk, col, Text, at, entries, keys, put, Wrote, Ready, Leaves, Means}
use Rattle.registry_tables.proofs.Words.{MeansQuery, scan, by_texts, in_order, select_where, insert_values, insert_puts, insert_meets_none, select_all, schema, text_spelled, contents, stored}
use Rattle.registry_tables.proofs.Words.{ShowsAll, ShowsWhether}
use Rattle.sqlite.specs.Listing.{understood}
use Rattle.sqlite_tied.specs.Compute.{everything}
use Rattle.registry_tables.specs.Schema as table
use Rattle.registry_tables.proofs.FoundFacts.{key_entry, keys_seen, there_found}
use Rattle.registry_tables.proofs.MappedFacts.{organisations_mapped}

-- ---- INSERT

abbrev put_text : List ℕ
put_text = codes "INSERT INTO orgs VALUES (?1)"

put_means : Means schema put_text (insert_values 2 (col 0 0 ∷ []))
unfolding understood everything
put_means = (refl, (refl, refl))

pub organisation_put : (o : Text) (old new : Shown) → Ready schema old → Wrote put_text (Stored o ∷ []) old new → HasCleanDisk new
    → Leaves schema contents (record (stored old) { organisations = put (stored old).organisations o tt }) new
organisation_put o old new form call = insert_puts organisations_mapped put_text _ put_means (Stored o ∷ []) refl old new (Ok call.0) form call.1

-- an answered INSERT had a new key
pub organisation_was_new : (o : Text) (old new : Shown) → Ready schema old → Wrote put_text (Stored o ∷ []) old new → HasCleanDisk new → at (stored old).organisations o ≡ None
organisation_was_new o old new form call = insert_meets_none organisations_mapped put_text _ put_means (Stored o ∷ []) refl old new (Ok call.0) form call.1

-- ---- SELECT

abbrev find_text : List ℕ
find_text = codes "SELECT name FROM orgs WHERE name = ?1"

pub find_means : MeansQuery schema find_text (Select (record { lets = []; body = scan 4 (by_texts 0 1 0) (col 1 1 ∷ []) [] }) (codes "name" ∷ []))
unfolding understood everything
find_means = ((refl, (refl, refl)), refl)

pub organisation_found : (o : Text) (old new : Shown) → ShowsWhether find_text (Stored o ∷ []) old new (λ c. is_some (at c.organisations o))
organisation_found o = there_found organisations_mapped find_text (col 1 1 ∷ []) _ find_means o

abbrev list_text : List ℕ
list_text = codes "SELECT name FROM orgs ORDER BY name"

pub list_means : MeansQuery schema list_text (select_where table.organisations (col 1 1 ∷ []) [] (in_order 0 1) (codes "name" ∷ []))
unfolding understood everything
list_means = ((refl, (refl, refl)), refl)

pub organisations_listed : (old new : Shown) → ShowsAll list_text [] old new text_spelled (λ c. keys (entries c.organisations))
organisations_listed old new rows form call clean =
    let it = select_all organisations_mapped list_text (col 1 1 ∷ []) _ list_means key_entry (λ (u : Unit {0}). u) (λ id vs. refl) old new rows form call clean in
    (it.0, keys_seen rows (entries (stored old).organisations) it.1)
