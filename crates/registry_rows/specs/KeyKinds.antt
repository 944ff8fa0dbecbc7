-- The kinds of keys that tables have: texts, bytes, and whole numbers.
use Rattle.std.specs.Prelude.{◌≡◌, ℕ, ℤ, Bool, List, [], ◌∷◌, drop, map}
use Rattle.std.specs.declared.cmp.Ordering.{Ordering}
use Rattle.std.specs.Ordering.{int_cmp, int_eq}
use Rattle.sqlite.specs.declared.types.Value.TheVariants.{Int, Blob}
use Rattle.sqlite_value.specs.Order.{Row, column}
use Rattle.sqlite_value.specs.declared.keys.Key.{Key as SortKey}
use Rattle.sqlite_sql.specs.Term.{Term}
use Rattle.sqlite_trees.specs.Tree.{rowid}
use Rattle.sqlite_rules.specs.Lists.{Has}
use Rattle.registry_names.specs.Texts.{text_cmp, is}
use Rattle.registry_names.specs.Maps.{MapBy, rows}
use Rattle.registry_rows.specs.Columns.{blob_in, int_in}
use Rattle.registry_rows.specs.TextKeys.{Texts, texts_cmp, texts_are, texts_row}
use Rattle.registry_rows.specs.Rows.{key_of}
use Rattle.registry_rows.specs.Statements.{by_texts, in_order}

-- what the keys are, how they are ordered and are distinguished, where a row has its own, and what
-- SQL says of them
pub record KeyKind : Type 1 where
  pub Key : Type 0
  pub cmp : Key → Key → Ordering
  pub same : Key → Key → Bool
  -- of a row that begins with its rowid
  pub of_row : Row → Key
  -- the parameters from ?1 on
  pub params : Key → Row
  -- WHERE the key is the parameters
  pub wanted : List Term
  -- ORDER BY the key
  pub order : List (Term × SortKey)

-- a text and this many more, in the first columns
abbrev pub texts : ℕ → KeyKind
texts more = record {
  Key = Texts more;
  cmp = texts_cmp more;
  same = texts_are more;
  of_row = key_of more;
  params = texts_row more;
  wanted = by_texts more 1 0;
  order = in_order more 1;
}

-- bytes, in the first column
abbrev pub bytes : KeyKind
bytes = record {
  Key = List ℕ;
  cmp = text_cmp;
  same = is;
  of_row = λ r. blob_in (column (drop 1 r) 0);
  params = λ b. Blob b ∷ [];
  wanted = by_texts 0 1 0;
  order = in_order 0 1;
}

-- a whole number, as the rowid
abbrev pub numbers : KeyKind
numbers = record {
  Key = ℤ;
  cmp = int_cmp;
  same = int_eq;
  of_row = λ r. int_in (rowid r);
  params = λ n. Int n ∷ [];
  wanted = by_texts 0 0 0;
  order = in_order 0 0;
}

-- the map that the rows give, where `value` reads a row's value off its columns
abbrev pub map_by : {X : Type 0} (k : KeyKind) → (Row → X) → List Row → MapBy k.cmp X
map_by k value table = rows k.cmp (map (λ r. (k.of_row r, value (drop 1 r))) table)

-- two rows with the same key are the same row
abbrev pub OneEach : KeyKind → List Row → Type 0
OneEach k table = (a b : Row) → Has table a → Has table b → k.of_row a ≡ k.of_row b → a ≡ b

abbrev pub BytesMap : Type 0 → Type 0
BytesMap X = MapBy text_cmp X

abbrev pub NumberMap : Type 0 → Type 0
NumberMap X = MapBy int_cmp X
