-- The table `meta`.
use Rattle.std.specs.Prelude.{codes}
use Rattle.registry_tables.proofs.Words.{◌≡◌, ℕ, ℤ, List, [], ◌∷◌, Option, None, Some, option_map, slice_get, Ok, pos, refl, ◌∙◌, Int, Stored, Row, column, lit, col, Select, State, HasCleanDisk, at}
use Rattle.registry_tables.proofs.Words.{int_in, Means, MeansQuery, scan, by_texts, insert_values, Wrote, Ready, Leaves, Reads, Queried, IsMapped, first_listed, select_finds, insert_puts, schema}
use Rattle.registry_tables.proofs.Words.{contents, number_named_in, stored, schema_key, with_number}
use Rattle.sqlite.specs.Listing.{understood}
use Rattle.sqlite_tied.specs.Compute.{everything}
use Rattle.registry_tables.specs.Schema as table
use Rattle.registry_tables.proofs.ContentsFacts.{contents_depend}

pub meta_mapped : IsMapped schema contents 13 table.meta 0 number_named_in (λ c m. record c { meta = m })
meta_mapped = record { found = refl; shape = refl; index = 13; indexed = refl; plain = refl; texts = refl; depends = contents_depend; alone = λ db rows. refl }

abbrev insert_text : List ℕ
insert_text = codes "INSERT INTO meta VALUES ('schema', ?1)"

insert_means : Means schema insert_text (insert_values 13 (lit (Stored (codes "schema")) ∷ col 0 0 ∷ []))
unfolding understood everything
insert_means = (refl, (refl, refl))

pub number_put : (number : ℕ) (old new : State) → Ready schema old → Wrote insert_text (Int (pos number) ∷ []) old new → HasCleanDisk new
    → Leaves schema contents (with_number (stored old) number) new
number_put number old new form call = insert_puts meta_mapped insert_text _ insert_means (Int (pos number) ∷ []) refl old new (Ok call.0) form call.1

-- ---- SELECT value FROM meta WHERE name = ?1

abbrev select_text : List ℕ
select_text = codes "SELECT value FROM meta WHERE name = ?1"

select_means : MeansQuery schema select_text (Select (record { lets = []; body = scan 26 (by_texts 0 1 0) (col 1 2 ∷ []) [] }) (codes "value" ∷ []))
unfolding understood everything
select_means = ((refl, (refl, refl)), refl)

pub number_found : (old new : State) (rows : List Row) → Ready schema old → Queried select_text (Stored schema_key ∷ []) old new rows → HasCleanDisk new
    → Reads schema old new × (option_map (λ r. int_in (column r 0)) (slice_get rows 0) ≡ at (stored old).meta schema_key)
number_found old new rows form call clean =
    let it = select_finds meta_mapped select_text (col 1 2 ∷ []) (codes "value" ∷ []) select_means schema_key (λ r. int_in (column r 0)) (λ n. n) (λ id vs. refl) old new rows form call clean in
    (it.0, first_listed (λ r. int_in (column r 0)) rows _ it.1 ∙ as_is (at (stored old).meta schema_key))
  where
    as_is : (o : Option ℤ) → option_map (λ n. n) o ≡ o
    as_is None = refl
    as_is (Some n) = refl
