-- Laws of CREATE TABLE and CREATE INDEX.
use Rattle.std.specs.Prelude.{◌≡◌, ℕ, List, [], Result, OnOk}
use Rattle.sqlite_trees.specs.Tree.{Trees}
use Rattle.sqlite_trees.specs.declared.store.Store.{Ghosts}
use Rattle.sqlite_schema.specs.declared.schema.Schema.{Schema}
use Rattle.sqlite_schema.specs.declared.schema.Table.{Table}
use Rattle.sqlite_schema.specs.declared.schema.Index.{Index}
use Rattle.sqlite_catalog.specs.Change.{KeepsRows, created, indexed, next_tree}
use Rattle.sqlite.specs.declared.error.Error.{Error}
use Rattle.sqlite.specs.State.{HasCleanDisk}
use Rattle.registry_rows.specs.Tables.{sequence_table}
use Rattle.registry_rows.specs.Statements.{MeansTable, MeansFirstCounted, MeansIndex}
use Rattle.registry_rows.specs.Ready.{Blank, Leaves, Executed, DependsOn}
use Rattle.registry_rows.specs.Laws.{OfEachCall, EachAnswer}

-- where the tables that were there have their rows and a new one has none, `after` gives what
-- `before` gave
abbrev pub GivesAlike : {C : Type 0} → Schema → (Trees → C) → (Trees → C) → Type 0
GivesAlike schema before after = (old new : Trees) → KeepsRows schema.tables old new → new (next_tree schema) ≡ [] → after new ≡ before old

-- the same where two are new: a table, and the one that counts for it
abbrev pub GivesAlikeBoth : {C : Type 0} → Schema → Schema → (Trees → C) → (Trees → C) → Type 0
GivesAlikeBoth schema next before after = (old new : Trees) → KeepsRows schema.tables old new → new (next_tree schema) ≡ [] → new (next_tree next) ≡ [] → after new ≡ before old

module _ {S : Type 0} (store : Ghosts S) where
  -- each answered call with this text takes empty tables to the empty tables of another schema
  abbrev pub EachMakes : List ℕ → Schema → Schema → Type 0
  EachMakes sql schema made = OfEachCall store (λ old new. (r : Result ℕ Error) → (HasCleanDisk old → Blank schema old) → Executed sql [] old new r → HasCleanDisk new → OnOk r (Blank made new))

  -- CREATE TABLE adds an empty table to empty tables
  abbrev pub CreateAddsEmpty : Type 0
  CreateAddsEmpty = (schema : Schema) (sql : List ℕ) (table : Table) → MeansTable schema sql table → EachMakes sql schema (created schema table)

  -- the first CREATE TABLE with AUTOINCREMENT adds the table that counts too
  abbrev pub CreateAddsCounter : Type 0
  CreateAddsCounter = (schema : Schema) (sql : List ℕ) (table : Table) → MeansFirstCounted schema sql table → EachMakes sql schema (created (created schema table) (sequence_table 0))

  -- CREATE INDEX leaves empty tables empty
  abbrev pub IndexKeepsEmpty : Type 0
  IndexKeepsEmpty = (schema : Schema) (sql : List ℕ) (place : ℕ) (table : Table) (index : Index) → MeansIndex schema sql place table index → EachMakes sql schema (indexed schema table index)

  -- CREATE INDEX leaves the rows of all tables as they are
  abbrev pub IndexKeepsRows : Type 0 → Type 0
  IndexKeepsRows C = (schema : Schema) (sql : List ℕ) (place : ℕ) (table : Table) (index : Index) → MeansIndex schema sql place table index → (contents : Trees → C) → DependsOn schema contents
      → EachAnswer store schema sql [] (λ old new. Leaves (indexed schema table index) contents (contents old.now.trees) new)

  -- CREATE TABLE leaves the rows of the tables that were there as they are
  abbrev pub CreateKeepsRows : Type 0 → Type 0
  CreateKeepsRows C = (schema : Schema) (sql : List ℕ) (table : Table) → MeansTable schema sql table → (before after : Trees → C) → GivesAlike schema before after
      → EachAnswer store schema sql [] (λ old new. Leaves (created schema table) after (before old.now.trees) new)

  -- and so does the first with AUTOINCREMENT, which adds the table that counts too
  abbrev pub CreateCounterKeepsRows : Type 0 → Type 0
  CreateCounterKeepsRows C = (schema : Schema) (sql : List ℕ) (table : Table) → MeansFirstCounted schema sql table → (before after : Trees → C) → GivesAlikeBoth schema (created schema table) before after
      → EachAnswer store schema sql [] (λ old new. Leaves (created (created schema table) (sequence_table 0)) after (before old.now.trees) new)
