-- What the statements on tokens make and show.
use Rattle.registry_tables.proofs.Words.{◌≡◌, ℕ, List, [], ◌∷◌, filter, None, Ok, refl, sym, ap, ◌∙◌, codes, option_map_id, map-map, Blob, Stored, Delete, Select, Shown, HasCleanDisk, Row, col, Text}
use Rattle.registry_tables.proofs.Words.{is, at, put, erase, entries, keys, seen, is_sym, tokens_of, Wrote, Ready, Leaves, bytes, Means, MeansQuery, scan, select_where, by_column, by_texts}
use Rattle.registry_tables.proofs.Words.{insert_values, by_bytes_given, insert_puts_bytes, insert_meets_none_bytes, delete_erases_by, select_finds_by, select_has_by, first_listed, schema, contents}
use Rattle.registry_tables.proofs.Words.{registry_of, stored, blob_of_row, named_spelled, ShowsAll, ShowsFirst}
use Rattle.sqlite.specs.Listing.{understood}
use Rattle.sqlite_tied.specs.Compute.{everything}
use Rattle.registry_tables.specs.Schema as table
use Rattle.registry_tables.proofs.MappedFacts.{tokens_mapped}

-- ---- INSERT

abbrev put_text : List ℕ
put_text = codes "INSERT INTO tokens VALUES (?1, ?2)"

put_means : Means schema put_text (insert_values 1 (col 0 0 ∷ col 0 1 ∷ []))
unfolding understood everything
put_means = (refl, (refl, refl))

pub token_put : (digest u : Text) (old new : Shown) → Ready schema old → Wrote put_text (Blob digest ∷ Stored u ∷ []) old new → HasCleanDisk new
    → Leaves schema contents (record (stored old) { tokens = put (stored old).tokens digest u }) new
token_put digest u old new form call = insert_puts_bytes tokens_mapped put_text _ put_means (Blob digest ∷ Stored u ∷ []) refl old new (Ok call.0) form call.1

-- an answered INSERT had a new key
pub token_was_new : (digest u : Text) (old new : Shown) → Ready schema old → Wrote put_text (Blob digest ∷ Stored u ∷ []) old new → HasCleanDisk new → at (stored old).tokens digest ≡ None
token_was_new digest u old new form call = insert_meets_none_bytes tokens_mapped put_text _ put_means (Blob digest ∷ Stored u ∷ []) refl old new (Ok call.0) form call.1

-- ---- DELETE

abbrev drop_text : List ℕ
drop_text = codes "DELETE FROM tokens WHERE digest = ?1"

drop_means : Means schema drop_text (Delete 1 (record { lets = []; body = scan 2 (by_texts 0 1 0) (col 1 0 ∷ []) [] }))
unfolding understood everything
drop_means = (refl, (refl, refl))

-- nothing refers to a token
pub token_dropped : (digest : Text) (old new : Shown) → Ready schema old → Wrote drop_text (Blob digest ∷ []) old new → HasCleanDisk new
    → Leaves schema contents (record (stored old) { tokens = erase (stored old).tokens digest }) new
unfolding everything
token_dropped digest old new form call = delete_erases_by (by_bytes_given tokens_mapped) drop_text drop_means (λ olds. refl) digest old new (Ok call.0) form call.1

-- ---- SELECT

abbrev find_text : List ℕ
find_text = codes "SELECT user FROM tokens WHERE digest = ?1"

pub find_means : MeansQuery schema find_text (Select (record { lets = []; body = scan 2 (by_texts 0 1 0) (col 1 2 ∷ []) [] }) (codes "user" ∷ []))
unfolding understood everything
find_means = ((refl, (refl, refl)), refl)

pub user_of_found : (digest : Text) (old new : Shown) → ShowsFirst find_text (Blob digest ∷ []) old new named_spelled (λ c. at c.tokens digest)
user_of_found digest old new rows form call clean =
    let it = select_finds_by (by_bytes_given tokens_mapped) find_text (col 1 2 ∷ []) _ find_means digest named_spelled (λ (u : Text). u) (λ id vs. refl) old new rows form call clean in
    (it.0, first_listed named_spelled rows _ it.1 ∙ option_map_id (at (stored old).tokens digest))

abbrev list_text : List ℕ
list_text = codes "SELECT digest FROM tokens WHERE user = ?1 ORDER BY digest"

pub list_means : MeansQuery schema list_text (select_where table.tokens (col 1 1 ∷ []) (by_column 1) bytes.order (codes "digest" ∷ []))
unfolding understood everything
list_means = ((refl, (refl, refl)), refl)

abbrev nothing_of : Text → Unit {0}
nothing_of u = tt

-- a digest, and nothing of its user
abbrev digest_of : Row → Text × Unit {0}
digest_of r = (blob_of_row r, tt)

-- the entries whose user this is, whichever of the two is asked about
is_either : (u : Text) (es : List (Text × Text)) → filter (λ (e : Text × Text). is u e.1) es ≡ filter (λ (e : Text × Text). is e.1 u) es
is_either u [] = refl
is_either u (e ∷ es) = rw (is_sym u e.1, is_either u es) refl

pub tokens_listed : (u : Text) (old new : Shown) → ShowsAll list_text (Stored u ∷ []) old new blob_of_row (λ c. tokens_of (registry_of c) u)
tokens_listed u old new rows form call clean =
    let it = select_has_by (by_bytes_given tokens_mapped) 1 (Stored u) refl (λ (x : Text). is u x) (λ vs. refl) list_text (col 1 1 ∷ []) _ list_means digest_of nothing_of (λ id vs. refl) old new rows form call clean in (
      it.0,
      sym (map-map (λ (e : Text × Unit {0}). e.0) digest_of rows) ∙ ap keys it.1
          ∙ map-map (λ (e : Text × Unit {0}). e.0) (seen nothing_of) (filter (λ (e : Text × Text). is u e.1) (entries (stored old).tokens)) ∙ ap keys (is_either u (entries (stored old).tokens)),
    )
