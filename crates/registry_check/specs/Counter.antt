-- Where SQLite counts the numbers of archives.
use Rattle.std.specs.Prelude.{◌≡◌, ◌==◌, ℤ, pos, ◌≤ℤ◌, int_le, int_lt, Bool, true, false, ◌&&◌, List, [], ◌∷◌, Option, None, Some, find, length, option_map, IsTrue}
use Rattle.sqlite.specs.declared.types.Value.{Value}
use Rattle.sqlite.specs.declared.types.Value.TheVariants as value
use Rattle.sqlite_value.specs.Order.{Row, column}
use Rattle.registry_names.specs.Maps.{at}
use Rattle.registry_names.specs.Texts.{is}
use Rattle.registry_rows.specs.Columns.{int_in}
use Rattle.registry_rows.specs.Counting.{counted}
use Rattle.registry_tables.specs.Contents.{Archive, Contents}
use Rattle.registry_tables.specs.Fresh.{CountsArchivesAlone}
use Rattle.registry_tables.specs.Schema as table
use Rattle.registry_check.specs.declared.counter.CountRow.{CountRow}
use Rattle.registry_check.specs.declared.counter.Counter.{Counter}

-- ---- the count

-- a whole number
abbrev pub whole : Value → Option ℤ
whole (value.Int n) = Some n
whole _ = None

-- the count as it is stored, if it is a whole number. Before the first archive it is 0
abbrev pub count_of : Option Value → Option ℤ
count_of None = Some (pos 0)
count_of (Some v) = whole v

-- the last rowid that a row can have
abbrev pub last_rowid : ℤ
last_rowid = pos 9223372036854775807

-- a number from 0 on, above which there is another for an archive
abbrev pub is_count : Option ℤ → Bool
is_count None = false
is_count (Some n) = int_le (pos 0) n && int_lt n last_rowid

-- the number isn't above the count. Nothing is above what isn't a number
abbrev pub is_counted : Option ℤ → ℤ → Bool
is_counted None k = true
is_counted (Some n) k = int_le k n

-- SQLite counts the archives and nothing else. The count is a whole number from 0 on, above which
-- there is another, and no archive's number is above it: so the next archive has a number that none
-- had before.
pub record CountsArchives (c : Contents) : Type 0 where
  pub alone : CountsArchivesAlone c
  pub count : IsTrue (is_count (count_of c.last_archive))
  pub highest : (n : ℤ) (a : Archive) → at c.archives n ≡ Some a → n ≤ℤ counted c.last_archive

-- ---- what is found of it: whether nothing else is counted, and the count

abbrev pub counter_entry : Counter → Bool × Option ℤ
counter_entry c = (c.is_alone, c.count)

abbrev pub counter_in : Contents → Bool × Option ℤ
counter_in c = (length c.counters == 0, count_of c.last_archive)

-- ---- the rows of sqlite_sequence, each as its rowid, whether it is that of the archives, and what it
-- counts

-- the name of the table of archives
abbrev pub is_archives : Value → Bool
is_archives (value.Text t) = is t table.archives.name
is_archives _ = false

abbrev pub count_in_row : Row → Bool × Option ℤ
count_in_row vs = (is_archives (column vs 0), whole (column vs 1))

abbrev pub count_entry : CountRow → ℤ × (Bool × Option ℤ)
count_entry r = (r.row, (r.is_archives, r.count))

abbrev pub count_spelled : Row → ℤ × (Bool × Option ℤ)
count_spelled r = (int_in (column r 0), (is_archives (column r 1), whole (column r 2)))

-- there is no row, or that of the archives alone
abbrev pub are_alone : List (ℤ × (Bool × Option ℤ)) → Bool
are_alone [] = true
are_alone (e ∷ []) = e.1.0
are_alone (e ∷ f ∷ es) = false

-- what the row of the archives counts
abbrev pub counted_in : Option (Option ℤ) → Option ℤ
counted_in None = Some (pos 0)
counted_in (Some count) = count

abbrev pub counter_among : List (ℤ × (Bool × Option ℤ)) → Bool × Option ℤ
counter_among es = (are_alone es, counted_in (option_map (λ (e : ℤ × (Bool × Option ℤ)). e.1.1) (find (λ (e : ℤ × (Bool × Option ℤ)). e.1.0) es)))
