-- The tables of an older schema, made in memory.
use Rattle.std.proofs.Common.{◌≡◌, ◌∙◌, ◌<◌, ◌≤◌, ℕ, List, [], Bor, arith, get_or, length, map, refl, true, sym, ap}
use Rattle.std.proofs.lemmas.List.{get_or-map, length-map}
use Rattle.sqlite.specs.Held.{Held, state}
use Rattle.sqlite.specs.State.{HasCleanDisk}
use Rattle.sqlite.specs.Steps.{IsEmpty}
use Rattle.sqlite_trees.specs.declared.store.Store.{Ghosts}
use Rattle.registry_rows.specs.Ready.{Ready}
use Rattle.registry_rows.specs.Tables.{no_tables}
use Rattle.registry_tables.specs.Creation.{creation}
use Rattle.registry_tables.specs.Fresh.{schema_after}
use Rattle.registry_tables.proofs.SchemaFacts.{creation_length}
use Rattle.registry_migration.specs.Older.{schema_of, text_count}
use Rattle.registry_migration.specs.declared.older.Older.{Older}
use Rattle.registry_migration.specs.declared.older.Older.TheVariants.{First, Second}

-- an empty database has no tables, also once a transaction is begun
pub empty_begun : {S : Type 0} (store : Ghosts S) (h : Held S) → (HasCleanDisk (state store h) → IsEmpty (state store h)) → Ready no_tables (state store (record h { in_transaction = true }))
empty_begun store h empty clean on = record { schema_is = (empty clean).2; sound = ((empty clean).1 on).0; rowids = tt }

-- what the texts of a schema make is that schema
pub made_by : (older : Older) → schema_after (text_count older) ≡ schema_of older
made_by First = refl
made_by Second = refl

-- they are some, and no more than there are
pub count_within : (older : Older) → (0 < text_count older) × (text_count older ≤ length creation)
count_within First = let long = creation_length in (omega arith, omega (arith, long))
count_within Second = let long = creation_length in (omega arith, omega (arith, long))

-- the text at a place
pub text_at : (texts : List (Bor (List ℕ))) (i : ℕ) (d : Bor (List ℕ)) → map (λ text. text.now) texts ≡ creation → i < length texts → (get_or texts i d).now ≡ get_or creation i []
text_at texts i d same within = sym (get_or-map (λ text. text.now) texts i d [] within) ∙ ap (λ sqls. get_or sqls i []) same

pub as_many : (texts : List (Bor (List ℕ))) → map (λ text. text.now) texts ≡ creation → length texts ≡ length creation
as_many texts same = sym (length-map texts (λ text. text.now)) ∙ ap length same
