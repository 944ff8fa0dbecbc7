-- What ON DELETE CASCADE takes from other tables.
use Rattle.std.specs.Prelude.{◌≡◌, ◌==◌, ℕ, true, not, List, [], ◌∷◌, map, filter, Option, None, Some, if◌then◌else◌, slice_get}
use Rattle.std.specs.List.{AllByRecursion, flat_map, filter_map}
use Rattle.sqlite_value.specs.Keys.{plain}
use Rattle.sqlite_trees.specs.Tree.{Trees}
use Rattle.sqlite_schema.specs.declared.schema.Schema.{Schema}
use Rattle.sqlite_schema.specs.declared.schema.Table.{Table}
use Rattle.sqlite_schema.specs.declared.schema.Reference.{Reference}
use Rattle.sqlite_schema.specs.declared.schema.Action.TheVariants.{Cascade}
use Rattle.sqlite_schema.specs.declared.schema.Keys.TheVariants.{Enforced}
use Rattle.sqlite_schema.specs.Rules.{ParentKey, parent_key}
use Rattle.sqlite_rules.specs.declared.action.Deed.{Deed}
use Rattle.sqlite_rules.specs.declared.action.Deed.TheVariants.{Delete}
use Rattle.sqlite_rules.specs.Action.{deed_for}
use Rattle.registry_rows.specs.Tables.{reference, keyed_table, key_index}
use Rattle.registry_rows.specs.Columns.{are_plain}
use Rattle.registry_rows.specs.TextKeys.{Texts, texts_are, places_from, begin_with_texts}
use Rattle.registry_rows.specs.Ready.{with_rows}
use Rattle.registry_laws_sql.specs.Places.{Places, are_places, columns_at, texts_at}

-- ---- the foreign keys of a schema

-- one that acts where rows of its parent go: whose it is, what it does to a row that refers to
-- them, and the key that this refers to
pub record Link : Type 0 where
  pub child : Table
  pub ref : Reference
  pub deed : Deed
  pub key : ParentKey

abbrev pub link_by : ℕ → Table → Reference → Option Deed → Option ParentKey → Option Link
link_by tree child ref None key = None
link_by tree child ref (Some deed) None = None
link_by tree child ref (Some deed) (Some key) = if key.0 == tree then Some (record { child = child; ref = ref; deed = deed; key = key }) else None

abbrev pub link_for : Schema → ℕ → Table → Reference → Option Link
link_for schema tree child ref = link_by tree child ref (deed_for Enforced true ref) (parent_key schema.tables ref)

-- those that act where rows of the table in this tree go
abbrev pub links : Schema → ℕ → List Link
links schema tree = flat_map (λ child. filter_map (link_for schema tree child) child.references) schema.tables

-- ---- the tables that refer to one

-- a table whose rows go with the row that they refer to, by these places of their own key, and what
-- becomes of the contents when those of a key go
pub record Child (C : Type 0) (more : ℕ) : Type 0 where
  pub table : Table
  pub places : Places more
  pub erases : Texts more → C → C

-- its foreign key, to the primary key of this table
abbrev pub link_of : {C : Type 0} {more : ℕ} → Table → Child C more → Link
link_of {more = more} parent c = record { child = c.table; ref = reference (columns_at more c.places) parent.name Cascade; deed = Delete; key = (parent.tree, places_from more 1, plain) }

-- The table at a place of the schema is such a child. Its key has `key_more` texts after the first,
-- with its index at a place of its own, and nothing goes with its own rows.
pub record IsChild {C : Type 0} {more : ℕ} (schema : Schema) (contents : Trees → C) (c : Child C more) : Type 0 where
  pub place : ℕ
  pub key_more : ℕ
  pub found : slice_get schema.tables place ≡ Some c.table
  pub shape : c.table ≡ keyed_table c.table.name c.table.tree c.table.columns (places_from key_more 1) c.table.references
  pub index : ℕ
  pub indexed : slice_get schema.indexes index ≡ Some (key_index c.table)
  pub plain : are_plain c.table.columns ≡ true
  pub texts : begin_with_texts key_more c.table.columns ≡ true
  pub within : are_places key_more more c.places ≡ true
  pub quiet : links schema c.table.tree ≡ []
  pub erased : (q : Texts more) (db : Trees) → contents (with_rows db c.table.tree (filter (λ r. not (texts_are more q (texts_at more c.places r))) (db c.table.tree))) ≡ c.erases q (contents db)

-- the foreign keys that act where rows of the table go are theirs
pub record HasChildren {C : Type 0} {more : ℕ} (schema : Schema) (contents : Trees → C) (table : Table) (children : List (Child C more)) : Type 0 where
  pub linked : links schema table.tree ≡ map (link_of table) children
  pub each : AllByRecursion (IsChild schema contents) children

-- what goes with the row of a key, out of all of them
abbrev pub all_erased : {C : Type 0} {more : ℕ} → List (Child C more) → Texts more → C → C
all_erased [] q c = c
all_erased (child ∷ children) q c = all_erased children q (child.erases q c)
