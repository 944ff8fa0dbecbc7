-- A row has the row that it refers to.
use Rattle.std.proofs.Common.{◌≡◌, ℕ, List, true, false, Some, sym, subst}
use Rattle.sqlite_value.specs.Order.{Row}
use Rattle.sqlite_value.specs.Keys.{plain}
use Rattle.sqlite_schema.specs.declared.schema.Constraint.TheVariants.{ForeignKey}
use Rattle.sqlite_schema.specs.declared.schema.Reference.{Reference}
use Rattle.sqlite_schema.specs.declared.schema.Schema.{Schema}
use Rattle.sqlite_schema.specs.declared.schema.Table.{Table}
use Rattle.sqlite_schema.specs.Rules.{agree, has_null, has_parent, parent_key}
use Rattle.sqlite_rules.specs.Lists.{Has}
use Rattle.sqlite_rules.proofs.ListLemmas.{all_has, test_has, some_has}
use Rattle.sqlite.specs.State.{State}
use Rattle.registry_rows.specs.Ready.{IsReady}

-- a reference of a table to the columns at these places of the table in this tree, whose collations
-- are SQLite's own
module _ (schema : Schema) (s : State) (ready : IsReady schema s) (child : Table) (listed : Has schema.tables child) (ref : Reference) (named : Has child.references ref)
    (tree : ℕ) (places : List ℕ) (to : parent_key schema.tables ref ≡ Some (tree, places, plain)) where
  pub parent_of : (r : Row) → Has (s.now.trees child.tree) r → has_null ref.columns r ≡ false → (p : Row) × Has (s.now.trees tree) p × (agree plain places p ref.columns r ≡ true)
  parent_of r h whole =
      let there = subst (λ z. Has z.tables child) (sym ready.schema_is) listed in
      let rule = all_has _ (s.now.trees child.tree) r (all_has _ s.now.schema.tables child (ready.sound.obeys.rules ForeignKey) there) h in
      let met = test_has (has_parent s.now.schema.tables s.now.trees r) child.references ref rule named in
      some_has (λ p. agree plain places p ref.columns r) (s.now.trees tree) (rw (whole, ready.schema_is, to) at met)
