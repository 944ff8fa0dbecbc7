-- The schemas that are compared with another one. What no table of a registry has is in none of
-- them.
use Rattle.std.specs.Prelude.{◌≡◌, []}
use Rattle.std.specs.List.{All}
use Rattle.sqlite_schema.specs.declared.schema.Column.{Column}
use Rattle.sqlite_schema.specs.declared.schema.Schema.{Schema}
use Rattle.sqlite_schema.specs.declared.schema.Table.{Table}
use Rattle.sqlite_value.specs.declared.value.Value.TheVariants.{Null}

-- a column without a default
abbrev pub IsPlainColumn : Column → Type 0
IsPlainColumn column = column.default ≡ Null

-- a table without checks, and without defaults that are computed or read the time
pub record IsBare (table : Table) : Type 0 where
  pub checks : table.checks ≡ []
  pub computed : table.computed ≡ []
  pub stamps : table.stamps ≡ record { places = []; terms = []; formats = [] }

pub record IsPlainTable (table : Table) : Type 0 where
  pub columns : All IsPlainColumn table.columns
  pub bare : IsBare table

-- a schema of such tables, without views
pub record IsPlain (schema : Schema) : Type 0 where
  pub tables : All IsPlainTable schema.tables
  pub views : schema.views ≡ []
