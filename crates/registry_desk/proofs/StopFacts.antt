-- What is found again after a stop.
use Rattle.registry_desk.proofs.Words.{◌≡◌, ◌∙◌, ℕ, suc, List, [], ◌∷◌, length, filter, arith, inl, inr, ap, refl, sym, subst, AllZip, Shown, HasCleanDisk, Trees, no_tables, IsKept, HoldsArchives}
use Rattle.registry_desk.proofs.Words.{Contents, registry_of, stored, fresh, HoldsNeeds, GrantsInScope, schema_of, GivesFound, IsMigrated, IsMade, HoldsReferences, IsRegistryOf, Rests}
use Rattle.sqlite_catalog.specs.Listing.{IsSound, IsTableRow, is_table_row}
use Rattle.sqlite_catalog.proofs.LayoutLemmas.{zipped_left, zipped_right}
use Rattle.sqlite_trees.specs.Objects.{catalog_tree}
use Rattle.registry_tables.specs.Schema as ours
use Rattle.registry_migration.specs.declared.older.Older.{Older}
use Rattle.registry_migration.specs.declared.older.Older.TheVariants.{First, Second}
use Rattle.registry_desk.proofs.CommitFacts.{registry_left}
use Rattle.registry_desk.proofs.OpenedFacts.{gives_found, has_users, holds_each}
use Rattle.registry_desk.specs.Stops.{AdoptionsAreOpens, GoesOn, HoldsMigrated, MigrationsLoseNothing, ReleasesAreAdopted, StoppedOpensLoseNothing, StopsAreAdopted, StopsInARowLoseNothing, StopsLoseNothing}

-- a database with a registry's tables isn't one without tables
not_empty : (db : Trees) → IsSound ours.schema db → IsSound no_tables db → ⊥
not_empty db sound none =
    let row = zipped_left IsTableRow _ ours.schema.tables ours.users sound.lists.listed.tables (inl refl) in
    (zipped_right IsTableRow _ no_tables.tables row.0 none.lists.listed.tables row.1).1

-- how many tables a database lists
abbrev listed : Trees → ℕ
listed db = length (filter is_table_row (db catalog_tree))

as_many : {A B : Type 0} (R : A → B → Type 0) (xs : List A) (ys : List B) → AllZip R xs ys → length xs ≡ length ys
as_many R [] [] all = refl
as_many R [] (y ∷ ys) all = absurd all
as_many R (x ∷ xs) [] all = absurd all
as_many R (x ∷ xs) (y ∷ ys) all = ap suc (as_many R xs ys all.1)

lists_ours : (db : Trees) → IsSound ours.schema db → listed db ≡ 18
lists_ours db sound = as_many IsTableRow _ ours.schema.tables sound.lists.listed.tables

lists_first : (db : Trees) → IsSound (schema_of First) db → listed db ≡ 14
lists_first db sound = as_many IsTableRow _ (schema_of First).tables sound.lists.listed.tables

lists_second : (db : Trees) → IsSound (schema_of Second) db → listed db ≡ 17
lists_second db sound = as_many IsTableRow _ (schema_of Second).tables sound.lists.listed.tables

-- so it is of one schema at most
not_older : (db : Trees) (older : Older) → IsSound ours.schema db → IsSound (schema_of older) db → ⊥
not_older db First sound was = omega (arith, lists_ours db sound, lists_first db was)
not_older db Second sound was = omega (arith, lists_ours db sound, lists_second db was)

one_older : (db : Trees) (a b : Older) → IsSound (schema_of a) db → IsSound (schema_of b) db → a ≡ b
one_older db First First one two = refl
one_older db First Second one two = absurd (omega (arith, lists_first db one, lists_second db two))
one_older db Second First one two = absurd (omega (arith, lists_second db one, lists_first db two))
one_older db Second Second one two = refl

older_not_empty : (db : Trees) (older : Older) → IsSound (schema_of older) db → IsSound no_tables db → ⊥
older_not_empty db older sound none =
    let row = zipped_left IsTableRow _ (schema_of older).tables ours.users sound.lists.listed.tables (has_users older) in
    (zipped_right IsTableRow _ no_tables.tables row.0 none.lists.listed.tables row.1).1

-- an open of a registry's database finds what it holds
pub found_again : (db : Trees) (c d : Contents) → IsRegistryOf db c → GivesFound db d → d ≡ c
found_again db c d held (inl (sound, number, is)) = is ∙ held.1
found_again db c d held (inr (inl (none, is))) = absurd (not_empty db held.0 none)
found_again db c d held (inr (inr (older, sound, is))) = absurd (not_older db older held.0 sound)

-- ---- of an open that is stopped

pub stopped_opens_lose_nothing : StoppedOpensLoseNothing
stopped_opens_lose_nothing db left c (inl same) gives = subst (λ (d : Trees). GivesFound d c) same gives
stopped_opens_lose_nothing db left c (inr (inl (none, is))) gives = inr (inl (none, found_again left fresh c is gives))
stopped_opens_lose_nothing db left c (inr (inr (older, was, leaves))) gives =
    inr (inr (older, was, subst (IsMigrated older db) (sym (found_again left leaves.held c leaves.is gives)) leaves.migrated))

pub stops_in_a_row_lose_nothing : StopsInARowLoseNothing
stops_in_a_row_lose_nothing db last [] c same gives = subst (λ (d : Trees). GivesFound d c) same gives
stops_in_a_row_lose_nothing db last (left ∷ more) c stopped gives = stopped_opens_lose_nothing db left c stopped.0 (stops_in_a_row_lose_nothing left last more c stopped.1 gives)

-- ---- of an older schema

migrated_alike : (older : Older) (db : Trees) (c : Contents) → IsMigrated older db c → HoldsMigrated older db c
migrated_alike older db c is = is.made

found_migrated : (older : Older) (db : Trees) (c : Contents) → IsSound (schema_of older) db → GivesFound db c → HoldsMigrated older db c
found_migrated older db c was (inl (sound, number, is)) = absurd (not_older db older sound was)
found_migrated older db c was (inr (inl (none, is))) = absurd (older_not_empty db older was none)
found_migrated older db c was (inr (inr (other, sound, is))) = subst (λ (o : Older). HoldsMigrated o db c) (one_older db other older sound was) (migrated_alike other db c is)

pub migrations_lose_nothing : MigrationsLoseNothing
migrations_lose_nothing older db left c was leaves gives = found_migrated older db c was (stopped_opens_lose_nothing db left c leaves gives)

-- ---- lives that go on

goes_on : (last next : Shown) → stored next ≡ stored last → GoesOn last next
goes_on last next same = record {
  same = same;
  sound = λ holds. record {
    grants = subst GrantsInScope (sym same) holds.grants;
    needs = subst HoldsNeeds (sym same) holds.needs;
  };
  refers = subst HoldsReferences (sym same);
  archives = subst HoldsArchives (sym same);
  form = subst (λ (c : Contents). IsKept (registry_of c)) (sym same);
  history = λ h is. ap registry_of same ∙ is;
}

pub stops_lose_nothing : {C D : Type 0} (show : C → Shown) (show_next : D → Shown) → StopsLoseNothing show show_next
stops_lose_nothing show show_next last next image db sure left holds each clean =
    goes_on (show last) (show_next next) (found_again db (stored (show last)) (stored (show_next next)) (sure db left) (each clean db holds))

pub adoptions_are_opens : {D : Type 0} (show : D → Shown) → AdoptionsAreOpens show
adoptions_are_opens show seen next image opened finds made = holds_each image (show seen) (show next) opened finds made

pub stops_are_adopted : {C D : Type 0} (show : C → Shown) (show_next : D → Shown) → StopsAreAdopted show show_next
stops_are_adopted show show_next last seen next image db sure left holds opened finds made =
    stops_lose_nothing show show_next last next image db sure left holds (holds_each image (show_next seen) (show_next next) opened finds made)

pub still_stored : (last next : Shown) → Rests last → IsMade last next → HasCleanDisk next → stored next ≡ stored last
still_stored last next rests made clean =
    let it = made clean in
    let ready = rests.in_form it.0 it.1 in
    found_again last.now.trees (stored last) (stored next) (registry_left last last.now.trees _ ready refl refl) (gives_found last.now (stored next) it.2 ready.sound)

pub releases_are_adopted : {C D : Type 0} (show : C → Shown) (show_next : D → Shown) → ReleasesAreAdopted show show_next
releases_are_adopted show show_next last next rests made clean = goes_on (show last) (show_next next) (still_stored (show last) (show_next next) rests made clean)
