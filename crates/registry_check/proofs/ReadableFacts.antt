-- Which rows have a text that isn't UTF-8.
use Rattle.std.proofs.Common.{◌≡◌, ◌∙◌, inl, inr, ℕ, zero, suc, ◌<◌, ℤ, Bool, true, false, ◌&&◌, List, [], ◌∷◌, ◌++◌, length, map, drop, refl, ap, ap₂, arith, if◌then◌else◌}
use Rattle.std.specs.List.{AllByRecursion, flat_map, list_all}
use Rattle.sqlite.specs.State.{State as Shown, HasCleanDisk}
use Rattle.sqlite_rules.specs.Lists.{Has}
use Rattle.sqlite_trees.specs.Tree.{Trees}
use Rattle.sqlite_value.specs.Order.{Row, column}
use Rattle.registry_rows.specs.Ready.{Queried, Reads, Ready}
use Rattle.registry_tables.specs.Schema.{schema}
use Rattle.registry_check.specs.Readable.{AreTextsReadable, ListsTexts, all_tables, are_readable, is_readable, table_of, table_problems, text_problems, text_rows, text_spelled, unreadable, unreadable_row}
use Rattle.registry_check.specs.declared.problem.Problem.{Problem}
use Rattle.registry_check.specs.declared.texts.TextTable.{TextTable}
use Rattle.registry_check.specs.declared.texts.TextTable.TheVariants.{Users, Tokens, Organisations, Members, Teams, TeamMembers, Packages, Grants, Maintainers, Versions, Spent, Tags, Needs, Meta, Held, Archives, NeedRanges}
use Rattle.registry_check.proofs.EachFacts.{nil_parts}
use Rattle.registry_check.proofs.NumberedFacts.{select_rows}

-- ---- the queries

-- where the schema has the table, and what its query shows
pub texts_listed : (t : TextTable) (sql : List ℕ) → ListsTexts t sql → (old new : Shown) (rows : List Row) → Ready schema old → Queried sql [] old new rows → HasCleanDisk new
    → Reads schema old new × (map text_spelled rows ≡ text_rows old.now.trees t)
texts_listed Users sql l = select_rows (are_readable Users) schema 0 (table_of Users) refl sql _ l.0 l.1 text_spelled (λ id vs. refl)
texts_listed Tokens sql l = select_rows (are_readable Tokens) schema 1 (table_of Tokens) refl sql _ l.0 l.1 text_spelled (λ id vs. refl)
texts_listed Organisations sql l = select_rows (are_readable Organisations) schema 2 (table_of Organisations) refl sql _ l.0 l.1 text_spelled (λ id vs. refl)
texts_listed Members sql l = select_rows (are_readable Members) schema 3 (table_of Members) refl sql _ l.0 l.1 text_spelled (λ id vs. refl)
texts_listed Teams sql l = select_rows (are_readable Teams) schema 4 (table_of Teams) refl sql _ l.0 l.1 text_spelled (λ id vs. refl)
texts_listed TeamMembers sql l = select_rows (are_readable TeamMembers) schema 5 (table_of TeamMembers) refl sql _ l.0 l.1 text_spelled (λ id vs. refl)
texts_listed Packages sql l = select_rows (are_readable Packages) schema 6 (table_of Packages) refl sql _ l.0 l.1 text_spelled (λ id vs. refl)
texts_listed Grants sql l = select_rows (are_readable Grants) schema 7 (table_of Grants) refl sql _ l.0 l.1 text_spelled (λ id vs. refl)
texts_listed Maintainers sql l = select_rows (are_readable Maintainers) schema 8 (table_of Maintainers) refl sql _ l.0 l.1 text_spelled (λ id vs. refl)
texts_listed Versions sql l = select_rows (are_readable Versions) schema 9 (table_of Versions) refl sql _ l.0 l.1 text_spelled (λ id vs. refl)
texts_listed Spent sql l = select_rows (are_readable Spent) schema 10 (table_of Spent) refl sql _ l.0 l.1 text_spelled (λ id vs. refl)
texts_listed Tags sql l = select_rows (are_readable Tags) schema 11 (table_of Tags) refl sql _ l.0 l.1 text_spelled (λ id vs. refl)
texts_listed Needs sql l = select_rows (are_readable Needs) schema 12 (table_of Needs) refl sql _ l.0 l.1 text_spelled (λ id vs. refl)
texts_listed Meta sql l = select_rows (are_readable Meta) schema 13 (table_of Meta) refl sql _ l.0 l.1 text_spelled (λ id vs. refl)
texts_listed Held sql l = select_rows (are_readable Held) schema 14 (table_of Held) refl sql _ l.0 l.1 text_spelled (λ id vs. refl)
texts_listed Archives sql l = select_rows (are_readable Archives) schema 15 (table_of Archives) refl sql _ l.0 l.1 text_spelled (λ id vs. refl)
texts_listed NeedRanges sql l = select_rows (are_readable NeedRanges) schema 17 (table_of NeedRanges) refl sql _ l.0 l.1 text_spelled (λ id vs. refl)

-- ---- one table after another

-- what holds of all tables in the list holds of each
each_table : (P : TextTable → Type 0) → AllByRecursion P all_tables → (t : TextTable) → P t
each_table P all Users = all.0
each_table P all Tokens = all.1.0
each_table P all Organisations = all.1.1.0
each_table P all Members = all.1.1.1.0
each_table P all Teams = all.1.1.1.1.0
each_table P all TeamMembers = all.1.1.1.1.1.0
each_table P all Packages = all.1.1.1.1.1.1.0
each_table P all Grants = all.1.1.1.1.1.1.1.0
each_table P all Maintainers = all.1.1.1.1.1.1.1.1.0
each_table P all Versions = all.1.1.1.1.1.1.1.1.1.0
each_table P all Spent = all.1.1.1.1.1.1.1.1.1.1.0
each_table P all Tags = all.1.1.1.1.1.1.1.1.1.1.1.0
each_table P all Needs = all.1.1.1.1.1.1.1.1.1.1.1.1.0
each_table P all Meta = all.1.1.1.1.1.1.1.1.1.1.1.1.1.0
each_table P all Held = all.1.1.1.1.1.1.1.1.1.1.1.1.1.1.0
each_table P all Archives = all.1.1.1.1.1.1.1.1.1.1.1.1.1.1.1.0
each_table P all NeedRanges = all.1.1.1.1.1.1.1.1.1.1.1.1.1.1.1.1.0

-- a list of lists is empty where each of them is, and the other way round
none_each : {X Y : Type 0} (f : X → List Y) (xs : List X) → flat_map f xs ≡ [] → AllByRecursion (λ x. f x ≡ []) xs
none_each f [] e = tt
none_each f (x ∷ xs) e = let both = nil_parts (f x) (flat_map f xs) e in (both.0, none_each f xs both.1)

each_none : {X Y : Type 0} (f : X → List Y) (xs : List X) → AllByRecursion (λ x. f x ≡ []) xs → flat_map f xs ≡ []
each_none f [] all = refl
each_none f (x ∷ xs) all = ap₂ (λ a b. a ++ b) all.0 (each_none f xs all.1)

each_by : {X : Type 0} (P : X → Type 0) → ((x : X) → P x) → (xs : List X) → AllByRecursion P xs
each_by P f [] = tt
each_by P f (x ∷ xs) = (f x, each_by P f xs)

-- ---- the rows of a table

readable_if : (b : Bool) (p : Problem) → (if b then [] else p ∷ []) ≡ [] → b ≡ true
readable_if true p e = refl
readable_if false p e = absurd cc

module _ (t : TextTable) (number : Row → ℤ) (fine : Row → Bool) where
  abbrev seen_of : List Row → List (ℤ × Bool)
  seen_of rs = map (λ r. (number r, fine r)) rs

  rows_fine : (rs : List Row) → unreadable t (seen_of rs) ≡ [] → (r : Row) → Has rs r → fine r ≡ true
  rows_fine [] e r h = absurd h
  rows_fine (x ∷ rs) e r (inl is) = ap fine is ∙ readable_if (fine x) (unreadable_row t (number x)) (nil_parts (if fine x then [] else unreadable_row t (number x) ∷ []) (unreadable t (seen_of rs)) e).0
  rows_fine (x ∷ rs) e r (inr later) = rows_fine rs (nil_parts (if fine x then [] else unreadable_row t (number x) ∷ []) (unreadable t (seen_of rs)) e).1 r later

  fine_rows : (rs : List Row) → ((r : Row) → Has rs r → fine r ≡ true) → unreadable t (seen_of rs) ≡ []
  fine_rows [] f = refl
  fine_rows (x ∷ rs) f = ap (λ (b : Bool). (if b then [] else unreadable_row t (number x) ∷ []) ++ unreadable t (seen_of rs)) (f x (inl refl)) ∙ fine_rows rs (λ r h. f r (inr h))

-- ---- all of them

-- no row has another text exactly where all texts are UTF-8
pub none_readable : (db : Trees) → text_problems db ≡ [] → AreTextsReadable db
none_readable db e t = rows_fine t _ (λ r. are_readable t (drop 1 r)) (db (table_of t).tree) (each_table (λ t. table_problems db t ≡ []) (none_each (table_problems db) all_tables e) t)

pub readable_none : (db : Trees) → AreTextsReadable db → text_problems db ≡ []
readable_none db all = each_none (table_problems db) all_tables (each_by (λ t. table_problems db t ≡ []) (λ t. fine_rows t _ (λ r. are_readable t (drop 1 r)) (db (table_of t).tree) (all t)) all_tables)

-- ---- the values of a row

-- one value after another
pub next_readable : (row : Row) (at : ℕ) → at < length row → list_all is_readable (drop at row) ≡ (is_readable (column row at) && list_all is_readable (drop (suc at) row))
next_readable [] at h = absurd (omega (arith, h))
next_readable (v ∷ vs) zero h = refl
next_readable (v ∷ vs) (suc at) h = next_readable vs at (omega (arith, h))
