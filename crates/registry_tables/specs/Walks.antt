-- A walk over the live versions of a package, outside a transaction.
use Rattle.std.specs.Prelude.{◌≡◌, ◌≤◌, ℕ, List, ◌∷◌, [], ◌++◌, codes, drop, false, length, map, Option, Some, None, IsTrue, ⊤}
use Rattle.std.specs.Borrow.{GName, MutBor}
use Rattle.sqlite.specs.declared.rows.stream.Rows.{Rows}
use Rattle.sqlite.specs.declared.types.Value.TheVariants.{Text as Stored}
use Rattle.sqlite.specs.Given.{HasGiven}
use Rattle.sqlite.specs.Held.{Held, state}
use Rattle.sqlite.specs.State.{State as Seen, HasCleanDisk, Shown, Survives}
use Rattle.sqlite_trees.specs.declared.store.Store.{Ghosts}
use Rattle.sqlite_value.specs.Order.{Row}
use Rattle.registry_names.specs.Maps.{of, seen}
use Rattle.registry_names.specs.Texts.{Text}
use Rattle.registry_names.specs.declared.stop.Fault.{Fault}
use Rattle.registry_packument.specs.declared.packument.VersionRow.{VersionRow}
use Rattle.registry_rows.specs.Ready.{Ready}
use Rattle.registry_tables.specs.Contents.{live_of}
use Rattle.registry_tables.specs.Effects.{stored}
use Rattle.registry_tables.specs.Schema.{schema}
use Rattle.registry_tables.specs.Spelled.{document, row_entry, row_spelled}
use Rattle.registry_tables.specs.declared.walk.stage.Stage.{Stage}
use Rattle.registry_tables.specs.declared.walk.stage.Stage.TheVariants.{Goes, Over, Stopped}

-- what a walk asks
abbrev pub walk_text : List ℕ
walk_text = codes "SELECT version, manifest, deprecated FROM versions WHERE package = ?1 ORDER BY version"

-- the live versions of a package, each with its manifest and its message, in byte order
abbrev pub documents_of : Seen → Text → List (Text × (Text × Text))
documents_of s p = map (seen document) (of (live_of (stored s)) p)

-- such a version as a row
abbrev pub row_of_entry : Text × (Text × Text) → VersionRow
row_of_entry e = record { version = e.0; manifest = e.1.0; message = e.1.1 }

-- those after the first n of them, as rows
abbrev pub rows_after : Seen → Text → ℕ → List VersionRow
rows_after s p n = map row_of_entry (drop n (documents_of s p))

-- the fault at which a walk stopped, if it did
abbrev pub fault_at : Stage → Option Fault
fault_at Goes = None
fault_at Over = None
fault_at (Stopped fault) = Some fault

-- ---- the connection that is walked over

-- What a walk leaves of what a connection shows, whatever it has given
pub record IsLeftAlone (old new : Seen) : Type 0 where
  -- nothing was committed by it
  pub survives : Survives old new (λ _. ⊥)
  -- no transaction was begun
  pub idle : old.in_transaction ≡ false → new.in_transaction ≡ false
  -- where it is open, it was open before; what was committed still is; and if it showed that, it
  -- still does
  pub opened : HasCleanDisk new → IsTrue new.is_open → IsTrue old.is_open
  pub committed : HasCleanDisk new → IsTrue new.is_open → new.committed ≡ old.committed
  pub same : HasCleanDisk new → IsTrue new.is_open → old.now ≡ old.committed → new.now ≡ old.now

module _ {S : Type 0} (store : Ghosts S) where
  -- the connection whose rows they are
  abbrev pub reference : Rows S store → GName
  reference rows = rows.conn.ghost_name

  -- what it shows
  abbrev pub shown_by : Rows S store → Seen
  shown_by rows = state store rows.conn.now

  -- a reference to rows of a walk, seen as a reference to what contracts see of them
  abbrev pub as_rows : {R : Type 0} → (R → Rows S store) → MutBor R → MutBor (Rows S store)
  as_rows rows r = record { ref_ptr = r.ref_ptr; ghost_name = r.ghost_name; now = rows r.now }

  -- A walk has gone on over the same rows: their connection is the same one and left alone, and
  -- open as long as no fault has stopped the walk
  pub record HasGoneOn (old new : MutBor (Rows S store)) (stopped : Option Fault) : Type 0 where
    pub same_rows : new.ghost_name ≡ old.ghost_name
    pub same_reference : reference new.now ≡ reference old.now
    pub left : IsLeftAlone (shown_by old.now) (shown_by new.now)
    pub unshut : stopped ≡ None → HasCleanDisk (shown_by new.now) → IsTrue (shown_by new.now).is_open

  -- ---- its steps

  -- the connection walks over the versions of the package, and has given these rows
  abbrev pub HasWalked : Text → Held S → List Row → Type 0
  HasWalked p h given = HasGiven store walk_text (Stored p ∷ []) h given

  -- one more row is given, that of this version, or there is none and the rows so far are all
  abbrev pub StepsTo : Text → Held S → Held S → List Row → Option VersionRow → Type 0
  StepsTo p old new given (Some v) = (row : Row) × HasWalked p new (given ++ row ∷ []) × (row_entry v ≡ row_spelled row)
  StepsTo p old new given None = Shown walk_text (Stored p ∷ []) (state store old) (state store new) given

  abbrev pub Steps : Held S → Held S → Option VersionRow → Type 0
  Steps old new found = (p : Text) (given : List Row) → HasWalked p old given → StepsTo p old new given found

module _ {S : Type 0} (store : Ghosts S) (p : Text) (h : Held S) (n : ℕ) where
  -- it has given n versions, and goes on
  pub record IsGoing : Type 0 where
    pub form : Ready schema (state store h)
    pub unshut : HasCleanDisk (state store h) → IsTrue (state store h).is_open
    pub walked : HasCleanDisk (state store h) → (given : List Row) × HasWalked store p h given × (length given ≡ n)

  -- it goes on; or it is over, and no more than n live; or it stopped
  abbrev pub IsAt : Stage → Type 0
  IsAt Goes = IsGoing
  IsAt Over = HasCleanDisk (state store h) → length (documents_of (state store h) p) ≤ n
  IsAt (Stopped fault) = ⊤

-- the rows are those of a walk over the package that has given nothing yet
abbrev pub Begins : {S : Type 0} (store : Ghosts S) → Text → Rows S store → Type 0
Begins store p rows = IsGoing store p rows.conn.now 0
