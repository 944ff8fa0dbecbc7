-- What the statement on needs makes, one after another.
use Rattle.registry_tables.proofs.Words.{◌≡◌, ℕ, List, [], ◌∷◌, ◌++◌, None, take, get_or, length, ◌+◌, ◌<◌, Ok, refl, sym, ap, ◌∙◌, codes, take_more, Stored, Shown, HasCleanDisk, col}
use Rattle.registry_tables.proofs.Words.{Text, Wrote, Ready, Leaves, Contents, schema, contents, stored, Need, Means, upsert_values, upsert_puts, TextsMap, with_need, with_needs}
use Rattle.sqlite.specs.Listing.{understood}
use Rattle.sqlite_tied.specs.Compute.{everything}
use Rattle.registry_tables.specs.Schema as table
use Rattle.registry_tables.proofs.MappedFacts.{need_ranges_mapped}

abbrev put_text : List ℕ
put_text = codes "INSERT INTO need_ranges VALUES (?1, ?2, ?3, ?4) ON CONFLICT (package, version, target, range) DO NOTHING"

put_means : Means schema put_text (upsert_values 17 table.need_ranges (col 0 0 ∷ col 0 1 ∷ col 0 2 ∷ col 0 3 ∷ []) None 4)
unfolding understood everything
put_means = (refl, (refl, refl))

pub need_put : (p v : Text) (need : Need) (old new : Shown) → Ready schema old → Wrote put_text (Stored p ∷ Stored v ∷ Stored need.target ∷ Stored need.range ∷ []) old new → HasCleanDisk new
    → Leaves schema contents (record (stored old) { need_ranges = with_need (stored old).need_ranges p v need }) new
need_put p v need old new form call = upsert_puts need_ranges_mapped put_text _ None (Stored p ∷ Stored v ∷ Stored need.target ∷ Stored need.range ∷ [])
    (record { means = put_means; quiet = refl; plain = refl; inserts = refl; updates = refl; value_is = λ vs. refl; keeps_key = λ r. refl }) old new (Ok call.0) form call.1

with_needs-more : (p v : Text) (needs : List Need) (need : Need) (m : TextsMap 3 (Unit {0})) → with_needs m p v (needs ++ need ∷ []) ≡ with_need (with_needs m p v needs) p v need
with_needs-more p v [] need m = refl
with_needs-more p v (first ∷ needs) need m = with_needs-more p v needs need (with_need m p v first)

-- one more need of the list
pub needs_next : (p v : Text) (needs : List Need) (i : ℕ) (need : Need) → i < length needs → need ≡ get_or needs i need → (c : Contents)
    → record c { need_ranges = with_need (with_needs c.need_ranges p v (take i needs)) p v need } ≡ record c { need_ranges = with_needs c.need_ranges p v (take (i + 1) needs) }
needs_next p v needs i need within is_next c =
    let more : take (i + 1) needs ≡ take i needs ++ need ∷ [] = take_more needs i need within ∙ ap (λ n. take i needs ++ n ∷ []) (sym is_next) in
    ap (λ m. record c { need_ranges = m }) (sym (ap (with_needs c.need_ranges p v) more ∙ with_needs-more p v (take i needs) need c.need_ranges))
