-- What the statements on members make and show.
use Rattle.registry_tables.proofs.Words.{◌≡◌, ℕ, Bool, ◌||◌, List, [], ◌∷◌, map, ap, Some, None, Ok, refl, sym, ◌∙◌, codes, list_any, Int, Stored, Select, Shown, HasCleanDisk, col, Text}
use Rattle.registry_tables.proofs.Words.{at, of, pair_key, text_key, Role, Wrote, Ready, Leaves, Means, MeansQuery, scan, by_texts, in_order, upsert_values, upsert_puts, put, select_finds, select_lists}
use Rattle.registry_tables.proofs.Words.{first_listed, schema, access_of, contents, stored, role_number, role_of, member_entry, member_spelled, role_spelled, ShowsAll}
use Rattle.registry_tables.proofs.Words.{ShowsFirst}
use Rattle.sqlite.specs.Listing.{understood}
use Rattle.sqlite_tied.specs.Compute.{everything}
use Rattle.registry_packument.specs.declared.list.Member.{Member}
use Rattle.registry_tables.specs.Schema as table
use Rattle.registry_tables.proofs.MappedFacts.{members_mapped}
use Rattle.registry_tables.proofs.ReadFacts.{at-read, part-read}

-- ---- INSERT, or UPDATE of the role

abbrev put_text : List ℕ
put_text = codes "INSERT INTO members VALUES (?1, ?2, ?3) ON CONFLICT (org, user) DO UPDATE SET role = ?3"

put_means : Means schema put_text (upsert_values 3 table.members (col 0 0 ∷ col 0 1 ∷ col 0 2 ∷ []) (Some (None ∷ None ∷ Some 2 ∷ [])) 3)
unfolding understood everything
put_means = (refl, (refl, refl))

pub member_put : (o u : Text) (role : Role) (old new : Shown) → Ready schema old → Wrote put_text (Stored o ∷ Stored u ∷ Int (role_number role) ∷ []) old new → HasCleanDisk new
    → Leaves schema contents (record (stored old) { members = put (stored old).members (o, u) (role_number role) }) new
member_put o u role old new form call = upsert_puts members_mapped put_text _ (Some (None ∷ None ∷ Some 2 ∷ [])) (Stored o ∷ Stored u ∷ Int (role_number role) ∷ [])
    (record { means = put_means; quiet = refl; plain = refl; inserts = refl; updates = refl; value_is = λ vs. refl; keeps_key = λ r. refl }) old new (Ok call.0) form call.1

-- ---- SELECT

abbrev find_text : List ℕ
find_text = codes "SELECT role FROM members WHERE org = ?1 AND user = ?2"

pub find_means : MeansQuery schema find_text (Select (record { lets = []; body = scan 6 (by_texts 1 1 0) (col 1 3 ∷ []) [] }) (codes "role" ∷ []))
unfolding understood everything
find_means = ((refl, (refl, refl)), refl)

pub role_found : (o u : Text) (old new : Shown) → ShowsFirst find_text (Stored o ∷ Stored u ∷ []) old new role_spelled (λ c. at (access_of c).roles (o, u))
role_found o u old new rows form call clean =
    let it = select_finds members_mapped find_text (col 1 3 ∷ []) _ find_means (o, u) role_spelled role_of (λ id vs. refl) old new rows form call clean in
    (it.0, first_listed role_spelled rows _ it.1 ∙ sym (at-read pair_key (stored old).members (λ _ n. role_of n) (o, u)))

abbrev list_text : List ℕ
list_text = codes "SELECT user, role FROM members WHERE org = ?1 ORDER BY user"

pub list_means : MeansQuery schema list_text (Select (record { lets = []; body = scan 6 (by_texts 0 1 0) (col 1 2 ∷ col 1 3 ∷ []) (in_order 0 2) }) (codes "user" ∷ codes "role" ∷ []))
unfolding understood everything
list_means = ((refl, (refl, refl)), refl)

pub members_listed : (o : Text) (old new : Shown) → ShowsAll list_text (Stored o ∷ []) old new member_spelled (λ c. of (access_of c).roles o)
members_listed o old new rows form call clean =
    let it = select_lists members_mapped list_text _ _ list_means o member_spelled role_of (λ id vs. refl) old new rows form call clean in
    (it.0, it.1 ∙ sym (part-read text_key (stored old).members role_of o))

-- a test of members is one of their entries
pub any_listed : (test : Text × Role → Bool) (members : List Member) → list_any (λ m. test (member_entry m)) members ≡ list_any test (map member_entry members)
any_listed test [] = refl
any_listed test (m ∷ members) = ap (λ b. test (member_entry m) || b) (any_listed test members)
