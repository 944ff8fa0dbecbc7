-- Some of the texts of a key, by their places in it. Places count from 0, and the text at a place
-- is in the column of that place.
use Rattle.std.specs.Prelude.{ℕ, zero, suc, Bool, true, false, ◌&&◌, List, [], ◌∷◌}
use Rattle.sqlite_value.specs.Order.{Row, column}
use Rattle.sqlite_value.specs.declared.keys.Collation.TheVariants.{Binary}
use Rattle.sqlite_sql.specs.declared.ops.BinaryOp.TheVariants.{Compare}
use Rattle.sqlite_sql.specs.declared.ops.CompareOp.TheVariants.{Eq}
use Rattle.sqlite_sql.specs.Term.{Term, col, op2}
use Rattle.registry_names.specs.Texts.{Text}
use Rattle.registry_rows.specs.Columns.{text_in}
use Rattle.registry_rows.specs.TextKeys.{Texts}

-- a place, and this many more
abbrev pub Places : ℕ → Type 0
Places zero = ℕ
Places (suc rest) = ℕ × Places rest

-- the text at a place of a key
abbrev pub text_of : (more at : ℕ) → Texts more → Text
text_of zero at k = k
text_of (suc more) zero k = k.0
text_of (suc more) (suc at) k = text_of more at k.1

-- the texts at these places
abbrev pub picked : (more rest : ℕ) → Places rest → Texts more → Texts rest
picked more zero at k = text_of more at k
picked more (suc rest) at k = (text_of more at.0 k, picked more rest at.1 k)

-- a key has this place
abbrev pub is_place : (more at : ℕ) → Bool
is_place zero zero = true
is_place zero (suc at) = false
is_place (suc more) zero = true
is_place (suc more) (suc at) = is_place more at

-- a key has all of them
abbrev pub are_places : (more rest : ℕ) → Places rest → Bool
are_places more zero at = is_place more at
are_places more (suc rest) at = is_place more at.0 && are_places more rest at.1

-- ---- in a row, which begins with its rowid

-- the columns of the places
abbrev pub columns_at : (rest : ℕ) → Places rest → List ℕ
columns_at zero at = suc at ∷ []
columns_at (suc rest) at = suc at.0 ∷ columns_at rest at.1

-- the texts in them
abbrev pub texts_at : (rest : ℕ) → Places rest → Row → Texts rest
texts_at zero at r = text_in (column r (suc at))
texts_at (suc rest) at r = (text_in (column r (suc at.0)), texts_at rest at.1 r)

-- WHERE .. = ?1 AND .. : the texts at these places are the parameters from that one on
abbrev pub by_places : (rest : ℕ) → Places rest → ℕ → List Term
by_places zero at given = op2 (Compare Eq Binary) (col 1 (suc at)) (col 0 given) ∷ []
by_places (suc rest) at given = op2 (Compare Eq Binary) (col 1 (suc at.0)) (col 0 given) ∷ by_places rest at.1 (suc given)
