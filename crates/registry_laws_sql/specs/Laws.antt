-- How the laws of this crate are said: of each table whose key is texts.
use Rattle.std.specs.Prelude.{ℕ}
use Rattle.sqlite_value.specs.Order.{Row}
use Rattle.sqlite_trees.specs.Tree.{Trees}
use Rattle.sqlite_schema.specs.declared.schema.Schema.{Schema}
use Rattle.sqlite_schema.specs.declared.schema.Table.{Table}
use Rattle.registry_rows.specs.TextKeys.{TextsMap}
use Rattle.registry_rows.specs.Ready.{IsMapped}

-- a law of a table with a key of texts, of which `more` follow the first, that gives one map
-- to X of the contents C
abbrev pub TextLaw : Type 0 → Type 0 → Type 1
TextLaw C X = (schema : Schema) (contents : Trees → C) (place : ℕ) (table : Table) (more : ℕ) (value : Row → X) → (C → TextsMap more X → C) → Type 0

-- it holds of each
abbrev pub OfEachTextTable : (C X : Type 0) → TextLaw C X → Type 0
OfEachTextTable C X law = (schema : Schema) (contents : Trees → C) (place : ℕ) (table : Table) (more : ℕ) (value : Row → X) (change : C → TextsMap more X → C) → IsMapped schema contents place table more value change
    → law schema contents place table more value change
