-- What the statements on the members of teams make and show.
use Rattle.registry_tables.proofs.Words.{◌≡◌, ℕ, List, [], ◌∷◌, is_some, None, Ok, refl, codes, Stored, Delete, Select, Shown, HasCleanDisk, col, Text, at, erase, put, Wrote, Ready, Leaves, Means}
use Rattle.registry_tables.proofs.Words.{MeansQuery, scan, by_texts, insert_values, insert_puts, insert_meets_none, delete_erases, schema, contents, stored, ShowsWhether}
use Rattle.sqlite.specs.Listing.{understood}
use Rattle.sqlite_tied.specs.Compute.{everything}
use Rattle.registry_tables.proofs.FoundFacts.{there_found}
use Rattle.registry_tables.proofs.MappedFacts.{team_members_mapped}

-- ---- INSERT

abbrev put_text : List ℕ
put_text = codes "INSERT INTO team_members VALUES (?1, ?2, ?3)"

put_means : Means schema put_text (insert_values 5 (col 0 0 ∷ col 0 1 ∷ col 0 2 ∷ []))
unfolding understood everything
put_means = (refl, (refl, refl))

pub team_member_put : (o t u : Text) (old new : Shown) → Ready schema old → Wrote put_text (Stored o ∷ Stored t ∷ Stored u ∷ []) old new → HasCleanDisk new
    → Leaves schema contents (record (stored old) { team_members = put (stored old).team_members (o, (t, u)) tt }) new
team_member_put o t u old new form call = insert_puts team_members_mapped put_text _ put_means (Stored o ∷ Stored t ∷ Stored u ∷ []) refl old new (Ok call.0) form call.1

-- an answered INSERT had a new key
pub team_member_was_new : (o t u : Text) (old new : Shown) → Ready schema old → Wrote put_text (Stored o ∷ Stored t ∷ Stored u ∷ []) old new → HasCleanDisk new → at (stored old).team_members (o, (t, u)) ≡ None
team_member_was_new o t u old new form call = insert_meets_none team_members_mapped put_text _ put_means (Stored o ∷ Stored t ∷ Stored u ∷ []) refl old new (Ok call.0) form call.1

-- ---- DELETE

abbrev drop_text : List ℕ
drop_text = codes "DELETE FROM team_members WHERE org = ?1 AND team = ?2 AND user = ?3"

drop_means : Means schema drop_text (Delete 5 (record { lets = []; body = scan 10 (by_texts 2 1 0) (col 1 0 ∷ []) [] }))
unfolding understood everything
drop_means = (refl, (refl, refl))

-- nothing refers to a member of a team
pub team_member_dropped : (o t u : Text) (old new : Shown) → Ready schema old → Wrote drop_text (Stored o ∷ Stored t ∷ Stored u ∷ []) old new → HasCleanDisk new
    → Leaves schema contents (record (stored old) { team_members = erase (stored old).team_members (o, (t, u)) }) new
unfolding everything
team_member_dropped o t u old new form call = delete_erases team_members_mapped drop_text drop_means (λ olds. refl) (o, (t, u)) old new (Ok call.0) form call.1

-- ---- SELECT

abbrev find_text : List ℕ
find_text = codes "SELECT user FROM team_members WHERE org = ?1 AND team = ?2 AND user = ?3"

pub find_means : MeansQuery schema find_text (Select (record { lets = []; body = scan 10 (by_texts 2 1 0) (col 1 3 ∷ []) [] }) (codes "user" ∷ []))
unfolding understood everything
find_means = ((refl, (refl, refl)), refl)

pub team_member_found : (o t u : Text) (old new : Shown) → ShowsWhether find_text (Stored o ∷ Stored t ∷ Stored u ∷ []) old new (λ c. is_some (at c.team_members (o, (t, u))))
team_member_found o t u = there_found team_members_mapped find_text (col 1 3 ∷ []) _ find_means (o, (t, u))
