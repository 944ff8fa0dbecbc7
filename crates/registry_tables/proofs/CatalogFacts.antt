-- The listing of the schema shows whether there is a table.
use Rattle.std.specs.Prelude.{codes}
use Rattle.registry_tables.proofs.Words.{AllZip, match_ordering, ◌≡◌, inl, Bool, true, false, not, ◌||◌, cond, List, [], ◌∷◌, map, filter, Option, None, Some, IsTrue, refl, sym, ap, subst, subst₂}
use Rattle.registry_tables.proofs.Words.{◌∙◌, ◌==◌, length, ne_eqb, arith, Row, value_cmp, rowid, put_row, col, Has, Schema, Select, Database, Answers, reads_listing, IsSourceOf, State, HasCleanDisk}
use Rattle.registry_tables.proofs.Words.{IsUnchanged, ShowsRows, IsPlain, command_of, no_tables, Means, Finds, scan, IsReady, Ready, Reads, Queried, selects, finds, ready_same, schema, listing_query}
use Rattle.std.specs.declared.cmp.Ordering.TheVariants.{Less, Equal, Greater}
use Rattle.sqlite_trees.specs.Objects.{catalog_tree}
use Rattle.sqlite_rules.specs.Edit.{put_all}
use Rattle.sqlite_schema.specs.declared.command.Command.{Command}
use Rattle.sqlite_schema.specs.declared.command.Returning.{Returning}
use Rattle.sqlite_catalog.specs.Listing.{AreListed, IsTableRow, IsIndexRow, IsViewRow, is_table_row, is_view_row, is_index_row}
use Rattle.sqlite.specs.Clock.{timed}
use Rattle.sqlite.specs.Listing.{understood, listing_schema, shown}
use Rattle.sqlite.specs.State.{Shown}
use Rattle.sqlite_tied.specs.Compute.{everything}

abbrev pub lists_names : Command
lists_names = Select (record { lets = []; body = scan 0 [] (col 1 2 ∷ []) [] }) (codes "name" ∷ [])

-- under this schema the text reads the listing
pub record ReadsListing (s : Schema) : Type 0 where
  pub means : Means s listing_query lists_names
  pub listing : reads_listing s listing_query ≡ true

ours_read : ReadsListing schema
unfolding understood listing_schema everything
ours_read = record { means = (refl, (refl, refl)); listing = refl }

none_read : ReadsListing no_tables
unfolding understood listing_schema everything
none_read = record { means = (refl, (refl, refl)); listing = refl }

pub listing_shown : (s : Schema) → ReadsListing s → (old new : State) (rows : List Row) → (IsTrue old.is_open → old.now.schema ≡ s) → Shown listing_query [] old new rows
    → IsUnchanged old new × ((db : Database) × IsSourceOf true old.now db × Answers lists_names db [] rows)
unfolding Shown
listing_shown s it old new rows has h = go h.0.returning refl h.2
  where
    go : (o : Option Returning) → h.0.returning ≡ o → ShowsRows old new listing_query h.0 (timed [] h.0.formats h.1.now) rows o
        → IsUnchanged old new × ((db : Database) × IsSourceOf true old.now db × Answers lists_names db [] rows)
    go None e k =
        let is = has k.3.0.was_open in
        let known = sym h.1.is ∙ ap (λ z. understood z listing_query) is in
        let bare = subst IsPlain (sym known) it.means.1 in
        let source = subst (λ b. IsSourceOf b old.now k.0) (ap (λ z. reads_listing z listing_query) is ∙ it.listing) k.1 in
        (k.3, (k.0, source, subst (λ c. Answers c k.0 [] rows) (ap command_of known ∙ it.means.0) (rw bare.1 at k.2)))
    go (Some what) e k =
        let known = sym h.1.is ∙ ap (λ z. understood z listing_query) (has k.1.shown.was_open) in
        let bare = subst IsPlain (sym known) it.means.1 in
        absurd (let both = sym bare.0 ∙ e in cc)

-- ---- rows are shown exactly where there are objects

put_some : (new : Row) (rows : List Row) → ¬ (put_row new rows ≡ [])
put_some new [] e = cc
put_some new (r ∷ rs) e = elim (value_cmp (rowid r) (rowid new)) as (λ o. match_ordering o (r ∷ put_row new rs) (new ∷ rs) (new ∷ r ∷ rs) ≡ [] → ⊥) [ Less ↦ λ e. cc | Equal ↦ λ e. cc | Greater ↦ λ e. cc ] e

all_some : (rows more : List Row) → ¬ (rows ≡ []) → ¬ (put_all rows more ≡ [])
all_some rows [] some = some
all_some rows (r ∷ more) some = all_some (put_row r rows) more (put_some r rows)

pub none_shown : (now db : Database) (rows : List Row) → IsSourceOf true now db → Answers lists_names db [] rows → now.trees catalog_tree ≡ [] → rows ≡ []
none_shown now db [] source answer none = refl
none_shown now db (x ∷ rows) source answer none =
    let found = finds [] (col 1 2 ∷ []) [] [] (db.trees 0) (x ∷ rows) (selects 0 [] (col 1 2 ∷ []) [] [] db.trees (x ∷ rows) answer.answer) in
    let it = found.sound x (inl refl) in
    absurd (subst (λ l. Has l it.0) (source.1 ∙ ap (λ l. put_all [] (map shown l)) none) it.1)

pub some_shown : (now db : Database) → IsSourceOf true now db → Answers lists_names db [] [] → (objects : List Row) → now.trees catalog_tree ≡ objects → objects ≡ []
some_shown now db source answer [] is = refl
some_shown now db source answer (r ∷ objects) is =
    let found = finds [] (col 1 2 ∷ []) [] [] (db.trees 0) [] (selects 0 [] (col 1 2 ∷ []) [] [] db.trees [] answer.answer) in
    let filled = source.1 ∙ ap (λ l. put_all [] (map shown l)) is in
    absurd (all_some (put_row (shown r) []) (map shown objects) (put_some (shown r) []) (sym filled ∙ empty (db.trees 0) found))
  where
    empty : (table : List Row) → Finds [] (col 1 2 ∷ []) [] table [] → table ≡ []
    empty [] found = refl
    empty (x ∷ table) found = absurd (found.complete x (inl refl) refl)

-- ---- there are objects exactly where there are tables

none_listed : (objects : List Row) → AreListed objects no_tables → objects ≡ []
none_listed [] h = refl
none_listed (r ∷ objects) h = absurd (go (is_table_row r) (is_view_row r) refl refl)
  where
    go : (a b : Bool) → is_table_row r ≡ a → is_view_row r ≡ b → ⊥
    go true b is_table is_view = subst (λ c. AllZip IsTableRow (cond c (r ∷ filter is_table_row objects) (filter is_table_row objects)) []) is_table h.tables
    go false true is_table is_view = subst (λ c. AllZip IsViewRow (cond c (r ∷ filter is_view_row objects) (filter is_view_row objects)) []) is_view h.views
    go false false is_table is_view = subst₂ (λ c d. AllZip (IsIndexRow []) (cond (not (c || d)) (r ∷ filter is_index_row objects) (filter is_index_row objects)) []) is_table is_view h.indexes

ours_listed : (objects : List Row) → AreListed objects schema → ¬ (objects ≡ [])
ours_listed objects h none = subst (λ l. AllZip IsTableRow (filter is_table_row l) schema.tables) none h.tables

unchanged_reads : (s : Schema) (old new : State) → IsReady s old → IsUnchanged old new → Reads s old new
unchanged_reads s old new ready same = record {
  was_open = same.0.was_open;
  ready = ready_same s old new same.0.now_is ready;
  same = same.0.now_is;
  mode = same.0.mode;
  committed = record { was_open = λ _. same.0.was_open; committed = λ _. same.0.committed_is };
}

-- ---- what the query shows

counts_some : (rows : List Row) → ¬ (rows ≡ []) → (length rows == 0) ≡ false
counts_some [] some = absurd (some refl)
counts_some (r ∷ rows) some = ne_eqb _ 0 (omega arith)

pub none_found : (old new : State) (rows : List Row) → Ready no_tables old → Queried listing_query [] old new rows → HasCleanDisk new → Reads no_tables old new × ((length rows == 0) ≡ true)
none_found old new rows form call clean =
    let ready = form (omega (arith, call.survives.clean, clean)) in
    let it = listing_shown no_tables none_read old new rows (λ up. (ready up).schema_is) (call.shown clean) in
    let was = ready it.0.0.was_open in
    let none = none_listed _ (subst (AreListed (old.now.trees catalog_tree)) was.schema_is was.sound.lists.listed) in
    (unchanged_reads no_tables old new was it.0, ap (λ (l : List Row). length l == 0) (none_shown old.now it.1.0 rows it.1.1 it.1.2 none))

pub ours_found : (old new : State) (rows : List Row) → Ready schema old → Queried listing_query [] old new rows → HasCleanDisk new → Reads schema old new × ((length rows == 0) ≡ false)
ours_found old new rows form call clean =
    let ready = form (omega (arith, call.survives.clean, clean)) in
    let it = listing_shown schema ours_read old new rows (λ up. (ready up).schema_is) (call.shown clean) in
    let was = ready it.0.0.was_open in
    let some = ours_listed _ (subst (AreListed (old.now.trees catalog_tree)) was.schema_is was.sound.lists.listed) in
    (unchanged_reads schema old new was it.0, counts_some rows (λ none. some (some_shown old.now it.1.0 it.1.1 (subst (Answers lists_names it.1.0 []) none it.1.2) _ refl)))
