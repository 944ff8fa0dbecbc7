-- What the statements on teams make and show.
use Rattle.registry_tables.proofs.Words.{◌≡◌, ℕ, List, [], ◌∷◌, is_some, None, Ok, refl, sym, ◌∙◌, codes, Stored, Select, Shown, HasCleanDisk, col, Text, at, keys, of, put, Wrote, Ready, Leaves}
use Rattle.registry_tables.proofs.Words.{Means, MeansQuery, scan, by_texts, in_order, insert_values, insert_puts, insert_meets_none, select_lists, schema, Contents, access_of, contents, grant_of}
use Rattle.registry_tables.proofs.Words.{role_of, pair_key, triple_key, stored, AreTeamsSound, text_spelled, ShowsAll, ShowsWhether}
use Rattle.sqlite.specs.Listing.{understood}
use Rattle.sqlite_tied.specs.Compute.{everything}
use Rattle.registry_rules.specs.Kept.{IsSound}
use Rattle.registry_tables.proofs.ReadFacts.{some-read}
use Rattle.registry_tables.proofs.FoundFacts.{key_entry, keys_seen, there_found}
use Rattle.registry_tables.proofs.MappedFacts.{teams_mapped}

-- ---- INSERT

abbrev put_text : List ℕ
put_text = codes "INSERT INTO teams VALUES (?1, ?2)"

put_means : Means schema put_text (insert_values 4 (col 0 0 ∷ col 0 1 ∷ []))
unfolding understood everything
put_means = (refl, (refl, refl))

pub team_put : (o t : Text) (old new : Shown) → Ready schema old → Wrote put_text (Stored o ∷ Stored t ∷ []) old new → HasCleanDisk new
    → Leaves schema contents (record (stored old) { teams = put (stored old).teams (o, t) tt }) new
team_put o t old new form call = insert_puts teams_mapped put_text _ put_means (Stored o ∷ Stored t ∷ []) refl old new (Ok call.0) form call.1

-- an answered INSERT had a new key
pub team_was_new : (o t : Text) (old new : Shown) → Ready schema old → Wrote put_text (Stored o ∷ Stored t ∷ []) old new → HasCleanDisk new → at (stored old).teams (o, t) ≡ None
team_was_new o t old new form call = insert_meets_none teams_mapped put_text _ put_means (Stored o ∷ Stored t ∷ []) refl old new (Ok call.0) form call.1

-- ---- SELECT

abbrev find_text : List ℕ
find_text = codes "SELECT team FROM teams WHERE org = ?1 AND team = ?2"

pub find_means : MeansQuery schema find_text (Select (record { lets = []; body = scan 8 (by_texts 1 1 0) (col 1 2 ∷ []) [] }) (codes "team" ∷ []))
unfolding understood everything
find_means = ((refl, (refl, refl)), refl)

pub team_found : (o t : Text) (old new : Shown) → ShowsWhether find_text (Stored o ∷ Stored t ∷ []) old new (λ c. is_some (at c.teams (o, t)))
team_found o t = there_found teams_mapped find_text (col 1 2 ∷ []) _ find_means (o, t)

abbrev list_text : List ℕ
list_text = codes "SELECT team FROM teams WHERE org = ?1 ORDER BY team"

pub list_means : MeansQuery schema list_text (Select (record { lets = []; body = scan 8 (by_texts 0 1 0) (col 1 2 ∷ []) (in_order 0 2) }) (codes "team" ∷ []))
unfolding understood everything
list_means = ((refl, (refl, refl)), refl)

pub teams_listed : (o : Text) (old new : Shown) → ShowsAll list_text (Stored o ∷ []) old new text_spelled (λ c. keys (of c.teams o))
teams_listed o old new rows form call clean =
    let it = select_lists teams_mapped list_text (col 1 2 ∷ []) _ list_means o key_entry (λ (u : Unit {0}). u) (λ id vs. refl) old new rows form call clean in
    (it.0, keys_seen rows (of (stored old).teams o) it.1)

-- ---- what teams have

pub sound_teams : (c : Contents) → IsSound (access_of c) → AreTeamsSound c
sound_teams c sound = record {
  members = λ o t u there. sym (some-read pair_key c.members (λ _ n. role_of n) (o, u)) ∙ (sound.team_members o t u there).1;
  grants = λ o t p there. (sound.grants o t p (some-read triple_key c.grants (λ _ n. grant_of n) (o, (t, p)) ∙ there)).scope;
}
