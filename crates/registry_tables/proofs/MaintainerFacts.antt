-- What the statements on maintainers make and show.
use Rattle.registry_tables.proofs.Words.{◌≡◌, ℕ, List, [], ◌∷◌, Bool, ◌||◌, is_some, None, Ok, refl, ap, codes, list_any, Stored, Delete, Select, Shown, HasCleanDisk, col, Text, at, erase, keys, of}
use Rattle.registry_tables.proofs.Words.{put, Wrote, Ready, Leaves, Means, MeansQuery, scan, by_texts, in_order, insert_values, select_lists, insert_puts, insert_meets_none, delete_erases, schema}
use Rattle.registry_tables.proofs.Words.{contents, stored, text_spelled, ShowsAll, ShowsWhether}
use Rattle.sqlite.specs.Listing.{understood}
use Rattle.sqlite_tied.specs.Compute.{everything}
use Rattle.registry_tables.proofs.FoundFacts.{key_entry, keys_seen, there_found}
use Rattle.registry_tables.proofs.MappedFacts.{owners_mapped}

-- ---- INSERT

abbrev put_text : List ℕ
put_text = codes "INSERT INTO owners VALUES (?1, ?2)"

put_means : Means schema put_text (insert_values 8 (col 0 0 ∷ col 0 1 ∷ []))
unfolding understood everything
put_means = (refl, (refl, refl))

pub owner_put : (p u : Text) (old new : Shown) → Ready schema old → Wrote put_text (Stored p ∷ Stored u ∷ []) old new → HasCleanDisk new
    → Leaves schema contents (record (stored old) { owners = put (stored old).owners (p, u) tt }) new
owner_put p u old new form call = insert_puts owners_mapped put_text _ put_means (Stored p ∷ Stored u ∷ []) refl old new (Ok call.0) form call.1

-- an answered INSERT had a new key
pub owner_was_new : (p u : Text) (old new : Shown) → Ready schema old → Wrote put_text (Stored p ∷ Stored u ∷ []) old new → HasCleanDisk new → at (stored old).owners (p, u) ≡ None
owner_was_new p u old new form call = insert_meets_none owners_mapped put_text _ put_means (Stored p ∷ Stored u ∷ []) refl old new (Ok call.0) form call.1

-- ---- DELETE

abbrev drop_text : List ℕ
drop_text = codes "DELETE FROM owners WHERE package = ?1 AND user = ?2"

drop_means : Means schema drop_text (Delete 8 (record { lets = []; body = scan 16 (by_texts 1 1 0) (col 1 0 ∷ []) [] }))
unfolding understood everything
drop_means = (refl, (refl, refl))

-- nothing refers to a maintainer
pub owner_dropped : (p u : Text) (old new : Shown) → Ready schema old → Wrote drop_text (Stored p ∷ Stored u ∷ []) old new → HasCleanDisk new
    → Leaves schema contents (record (stored old) { owners = erase (stored old).owners (p, u) }) new
unfolding everything
owner_dropped p u old new form call = delete_erases owners_mapped drop_text drop_means (λ olds. refl) (p, u) old new (Ok call.0) form call.1

-- ---- SELECT

abbrev find_text : List ℕ
find_text = codes "SELECT user FROM owners WHERE package = ?1 AND user = ?2"

pub find_means : MeansQuery schema find_text (Select (record { lets = []; body = scan 16 (by_texts 1 1 0) (col 1 2 ∷ []) [] }) (codes "user" ∷ []))
unfolding understood everything
find_means = ((refl, (refl, refl)), refl)

pub maintainer_found : (p u : Text) (old new : Shown) → ShowsWhether find_text (Stored p ∷ Stored u ∷ []) old new (λ c. is_some (at c.owners (p, u)))
maintainer_found p u = there_found owners_mapped find_text (col 1 2 ∷ []) _ find_means (p, u)

abbrev list_text : List ℕ
list_text = codes "SELECT user FROM owners WHERE package = ?1 ORDER BY user"

pub list_means : MeansQuery schema list_text (Select (record { lets = []; body = scan 16 (by_texts 0 1 0) (col 1 2 ∷ []) (in_order 0 2) }) (codes "user" ∷ []))
unfolding understood everything
list_means = ((refl, (refl, refl)), refl)

pub maintainers_listed : (p : Text) (old new : Shown) → ShowsAll list_text (Stored p ∷ []) old new text_spelled (λ c. keys (of c.owners p))
maintainers_listed p old new rows form call clean =
    let it = select_lists owners_mapped list_text (col 1 2 ∷ []) _ list_means p key_entry (λ (u : Unit {0}). u) (λ id vs. refl) old new rows form call clean in
    (it.0, keys_seen rows (of (stored old).owners p) it.1)

-- a test of keys is one of their entries
pub any_key : (test : Text → Bool) (es : List (Text × Unit {0})) → list_any test (keys es) ≡ list_any (λ e. test e.0) es
any_key test [] = refl
any_key test (e ∷ es) = ap (λ b. test e.0 || b) (any_key test es)
