-- What the calls that open a database and make its tables asked of it, whatever it holds. `old` and
-- `new` are the transaction at the entry and at the exit.
use Rattle.std.specs.Prelude.{◌≡◌, ℕ, zero, suc, Bool, true, false, ◌==◌, List, [], ◌∷◌, Option, None, Some, Ok, length, option_map, pos, get_or, slice_get, codes}
use Rattle.std.specs.Ordering.{is_eq}
use Rattle.sqlite.specs.declared.types.Value.TheVariants.{Int, Text as Stored}
use Rattle.sqlite_value.specs.Order.{Row, column, value_cmp}
use Rattle.sqlite_trees.specs.Objects.{catalog_tree}
use Rattle.sqlite_resolve.specs.declared.compiled.Compiled.{Compiled}
use Rattle.sqlite.specs.Listing.{understood, reads_listing}
use Rattle.sqlite.specs.State.{State, HasCleanDisk}
use Rattle.sqlite.specs.declared.transaction.Transaction.{Transaction}
use Rattle.sqlite_trees.specs.declared.store.Store.{Ghosts}
use Rattle.registry_rows.specs.Columns.{int_in}
use Rattle.registry_rows.specs.Frames.{Wrote}
use Rattle.registry_rows.specs.Ready.{Queried}
use Rattle.registry_tables.specs.Creation.{creation}
use Rattle.registry_tables.specs.Effects.{shown}
use Rattle.registry_tables.specs.Fresh.{first_tables, schema_key, schema_number}
use Rattle.registry_tables.specs.Schema as table

-- the query of what the database has, its tables among it
abbrev pub listing_query : List ℕ
listing_query = codes "SELECT name FROM sqlite_schema"

-- the query of the schema's number
abbrev pub number_query : List ℕ
number_query = codes "SELECT value FROM meta WHERE name = ?1"

-- the first of the texts that make the tables
abbrev pub first_creation : List ℕ
first_creation = get_or creation 0 []

-- ---- what SQLite counts

-- the query of the names for which it does
abbrev pub counts_query : List ℕ
counts_query = codes "SELECT name FROM sqlite_sequence"

-- the row is the name of the archives
abbrev pub is_name_of_archives : Row → Bool
is_name_of_archives r = is_eq (value_cmp (column r 0) (Stored table.archives.name))

-- there are no rows, or that name alone
abbrev pub name_archives_alone : List Row → Bool
name_archives_alone [] = true
name_archives_alone (r ∷ []) = is_name_of_archives r
name_archives_alone (r ∷ s ∷ rows) = false

-- ---- what a database has

-- no table bears the name of the listing, as SQLite allows none
abbrev pub SparesListing : State → Type 0
SparesListing s = reads_listing s.now.schema listing_query ≡ true

-- there is nothing: no table, no index, no view
abbrev pub HasNothing : State → Type 0
HasNothing s = s.now.trees catalog_tree ≡ []

-- the text means something in the database's schema
abbrev pub Understands : State → List ℕ → Type 0
Understands s text = (meaning : Compiled) × (understood s.now.schema text ≡ Ok meaning)

-- there is something, and the query of the number means something
abbrev pub HasNumber : State → Type 0
HasNumber s = (¬ HasNothing s) × Understands s number_query

-- the table `users` is there, and no other
abbrev pub HasUsersAlone : State → Type 0
HasUsersAlone s = s.now.schema ≡ first_tables 1

module _ {S : Type 0} (store : Ghosts S) where
  -- ---- opening

  -- the query of what the database has was answered, and showed nothing or not
  abbrev pub Lists : Bool → Transaction S → Transaction S → Type 0
  Lists is_nothing old new = (objects : List Row) × Queried listing_query [] (shown store old) (shown store new) objects × (is_nothing ≡ (length objects == 0))

  -- the query of the number was answered, and showed this one first
  abbrev pub ShowsNumber : ℕ → Transaction S → Transaction S → Type 0
  ShowsNumber number old new = (rows : List Row) × Queried number_query (Stored schema_key ∷ []) (shown store old) (shown store new) rows × (option_map (λ r. int_in (column r 0)) (slice_get rows 0) ≡ Some (pos number))

  -- what an answer was read from: none where the database showed that it has nothing, and a number
  -- where it showed something and then that number
  abbrev pub Opened : Option ℕ → Transaction S → Transaction S → Type 0
  Opened None old new = Lists true old new
  Opened (Some number) old new = (between : Transaction S) × Lists false old between × ShowsNumber number between new

  -- a sound answer: the disk stayed clean, and the listing could be read
  abbrev pub Finds : Transaction S → Transaction S → Option ℕ → Type 0
  Finds old new number = SparesListing (shown store old) × HasCleanDisk (shown store new) × Opened number old new

  -- ---- making the tables

  -- this many of the first texts that make the tables were run, one after another, each
  -- understood by the schema that it found
  abbrev pub HasRun : ℕ → Transaction S → Transaction S → Type 0
  HasRun zero old new = new ≡ old
  HasRun (suc n) old new = (between : Transaction S) × HasRun n old between × Wrote (get_or creation n []) [] (shown store between) (shown store new)

  -- the statement was run that puts the schema's number
  abbrev pub PutsNumber : Transaction S → Transaction S → Type 0
  PutsNumber old new = Wrote (codes "INSERT INTO meta VALUES ('schema', ?1)") (Int (pos schema_number) ∷ []) (shown store old) (shown store new)

  -- all of them were, and then that one
  abbrev pub HasCreated : Transaction S → Transaction S → Type 0
  HasCreated old new = (between : Transaction S) × HasRun (length creation) old between × PutsNumber between new

  -- a sound making: the disk stayed clean
  abbrev pub IsMade : Transaction S → Transaction S → Type 0
  IsMade old new = HasCleanDisk (shown store new) × HasCreated old new
