-- A query on two tables whose WHERE compares texts of their keys with each other and with
-- parameters.
use Rattle.std.specs.Prelude.{◌≡◌, ℕ, suc, Bool, true, false, ◌&&◌, List, [], ◌∷◌, None, Some, pos, negsuc}
use Rattle.sqlite.specs.declared.types.Value.{Value}
use Rattle.sqlite.specs.declared.types.Value.TheVariants as value
use Rattle.sqlite_value.specs.Order.{Row, column}
use Rattle.sqlite_value.specs.declared.keys.Collation.TheVariants.{Binary}
use Rattle.sqlite_sql.specs.declared.ops.BinaryOp.TheVariants.{Compare}
use Rattle.sqlite_sql.specs.declared.ops.CompareOp.TheVariants.{Eq}
use Rattle.sqlite_sql.specs.Term.{Term, lit, col, op2}
use Rattle.sqlite_sql.specs.Query.{Query, inner, end}
use Rattle.sqlite_schema.specs.declared.command.Command.{Command}
use Rattle.sqlite_schema.specs.declared.command.Command.TheVariants.{Select}
use Rattle.sqlite_schema.specs.declared.schema.Table.{Table}
use Rattle.registry_names.specs.Texts.{Text, is}
use Rattle.registry_names.specs.Maps.{at}
use Rattle.registry_rows.specs.Columns.{text_in}
use Rattle.registry_rows.specs.TextKeys.{Texts, TextsMap}
use Rattle.registry_laws_sql.specs.Places.{text_of, is_place}

-- one side of a comparison: a parameter, or the text at a place of the key of the first or the
-- second row
pub data Side : Type 0 where
  given : ℕ → Side
  first : ℕ → Side
  second : ℕ → Side

-- ---- what is asked

-- slot 0 has the parameters, slots 1 and 2 the rows, whose place 0 is the rowid
abbrev pub term_of : Side → Term
term_of (given n) = col 0 n
term_of (first n) = col 1 (suc n)
term_of (second n) = col 2 (suc n)

-- WHERE .. = .. AND ..
abbrev pub comparisons : List (Side × Side) → List Term
comparisons [] = []
comparisons (p ∷ ps) = op2 (Compare Eq Binary) (term_of p.0) (term_of p.1) ∷ comparisons ps

-- two tables, with no group, no order and no limit
abbrev pub join : ℕ → ℕ → List Term → List Term → Query
join one two wanted project = record {
  from = inner one (inner two end);
  filter = wanted;
  group = None;
  project = project;
  distinct = false;
  collations = [];
  order = [];
  limit = lit (value.Int (negsuc 0));
  offset = lit (value.Int (pos 0));
}

-- SELECT .. FROM t, u WHERE .., whose columns have these names
abbrev pub select_join : Table → Table → List Term → List (Side × Side) → List (List ℕ) → Command
select_join one two project ps names = Select (record { lets = []; body = join one.tree two.tree (comparisons ps) project }) names

abbrev pub is_text_value : Value → Bool
is_text_value (value.Text t) = true
is_text_value _ = false

-- the side is a text that there is
abbrev pub is_side : (m n : ℕ) → Row → Side → Bool
is_side m n params (given at) = is_text_value (column params at)
is_side m n params (first at) = is_place m at
is_side m n params (second at) = is_place n at

abbrev pub are_sides : (m n : ℕ) → Row → List (Side × Side) → Bool
are_sides m n params [] = true
are_sides m n params (p ∷ ps) = (is_side m n params p.0 && is_side m n params p.1) && are_sides m n params ps

-- ---- what is answered

abbrev pub side_text : (m n : ℕ) → Row → Texts m → Texts n → Side → Text
side_text m n params k l (given at) = text_in (column params at)
side_text m n params k l (first at) = text_of m at k
side_text m n params k l (second at) = text_of n at l

-- two keys pass each comparison
abbrev pub joins : (m n : ℕ) → Row → List (Side × Side) → Texts m → Texts n → Bool
joins m n params [] k l = true
joins m n params (p ∷ ps) k l = is (side_text m n params k l p.1) (side_text m n params k l p.0) && joins m n params ps k l

-- two entries whose keys pass, of which y is shown
pub record IsJoined {X Z Y : Type 0} (m n : ℕ) (one : TextsMap m X) (two : TextsMap n Z) (passes : Texts m → Texts n → Bool) (show : Texts m → X → Texts n → Z → Y) (y : Y) : Type 0 where
  pub key : Texts m
  pub value : X
  pub other_key : Texts n
  pub other : Z
  pub there : at one key ≡ Some value
  pub other_there : at two other_key ≡ Some other
  pub pass : passes key other_key ≡ true
  pub shown : y ≡ show key value other_key other
