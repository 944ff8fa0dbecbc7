-- Queries over the tables: which texts are queries, and what they show.
use Rattle.std.specs.Prelude.{◌≡◌, ◌==◌, ℕ, List, [], Bool, length, map, not, Option, option_map, slice_get}
use Rattle.std.specs.List.{list_all}
use Rattle.sqlite.specs.Command.TheVariants.{Select}
use Rattle.sqlite.specs.State.{State as Shown, HasCleanDisk}
use Rattle.sqlite_sql.specs.Query.{Query}
use Rattle.sqlite_value.specs.Order.{Row}
use Rattle.registry_rows.specs.Ready.{Ready, Queried, Reads}
use Rattle.registry_rows.specs.Statements.{MeansQuery}
use Rattle.registry_tables.specs.Contents.{Contents}
use Rattle.registry_tables.specs.Effects.{stored}
use Rattle.registry_tables.specs.Schema.{schema}

-- the text is a SELECT over our tables
pub record IsQuery (sql : List ℕ) : Type 0 where
  pub query : Query
  pub names : List (List ℕ)
  pub means : MeansQuery schema sql (Select (record { lets = []; body = query }) names)

-- what a query with these parameters shows, by what the connection shows before it and after it
module _ (sql : List ℕ) (params : Row) (old new : Shown) where
  -- this holds of the rows and of what is stored, and nothing is changed
  abbrev pub Shows : (List Row → Contents → Type 0) → Type 0
  Shows is_so = (rows : List Row) → Ready schema old → Queried sql params old new rows → HasCleanDisk new → Reads schema old new × is_so rows (stored old)

  -- whether there is a row
  abbrev pub ShowsWhether : (Contents → Bool) → Type 0
  ShowsWhether is = Shows (λ rows c. not (length rows == 0) ≡ is c)

  -- what the first row spells, if there is one
  abbrev pub ShowsFirst : {Y : Type 0} → (Row → Y) → (Contents → Option Y) → Type 0
  ShowsFirst spelled first = Shows (λ rows c. option_map spelled (slice_get rows 0) ≡ first c)

  -- whether all rows pass a test
  abbrev pub ShowsOnly : (Row → Bool) → (Contents → Bool) → Type 0
  ShowsOnly passes are = Shows (λ rows c. list_all passes rows ≡ are c)

  -- what the rows spell
  abbrev pub ShowsAll : {Y : Type 0} → (Row → Y) → (Contents → List Y) → Type 0
  ShowsAll spelled all = Shows (λ rows c. map spelled rows ≡ all c)

  -- tables in form, in which this is stored, were asked, and showed the rows
  pub record HasShown (c : Contents) (rows : List Row) : Type 0 where
    pub holds : stored old ≡ c
    pub form : Ready schema old
    pub call : Queried sql params old new rows
    pub clean : HasCleanDisk new
