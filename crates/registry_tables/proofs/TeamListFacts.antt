-- What the list of a team's users shows.
use Rattle.registry_tables.proofs.Words.{ℕ, List, [], ◌∷◌, refl, codes, Stored, col, Select, Shown, Text, pairs_of, parts, MeansQuery, scan, by_texts, in_order, select_lists_two, schema, stored}
use Rattle.registry_tables.proofs.Words.{text_spelled, users_of, ShowsAll}
use Rattle.sqlite.specs.Listing.{understood}
use Rattle.sqlite_tied.specs.Compute.{everything}
use Rattle.registry_tables.proofs.FoundFacts.{key_entry, keys_seen}
use Rattle.registry_tables.proofs.MappedFacts.{team_members_mapped}

-- ---- SELECT by organisation and team

abbrev users_text : List ℕ
users_text = codes "SELECT user FROM team_members WHERE org = ?1 AND team = ?2 ORDER BY user"

pub users_means : MeansQuery schema users_text (Select (record { lets = []; body = scan 10 (by_texts 1 1 0) (col 1 3 ∷ []) (in_order 0 3) }) (codes "user" ∷ []))
unfolding understood everything
users_means = ((refl, (refl, refl)), refl)

pub users_listed : (o t : Text) (old new : Shown) → ShowsAll users_text (Stored o ∷ Stored t ∷ []) old new text_spelled (λ c. users_of c o t)
users_listed o t old new rows form call clean =
    let it = select_lists_two team_members_mapped users_text (col 1 3 ∷ []) _ users_means o t key_entry (λ (u : Unit {0}). u) (λ id vs. refl) old new rows form call clean in
    (it.0, keys_seen rows (parts (pairs_of (stored old).team_members o) t) it.1)
