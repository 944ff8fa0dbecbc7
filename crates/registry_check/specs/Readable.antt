-- The texts of all tables, and the rows that have one that isn't UTF-8.
use Rattle.std.specs.Prelude.{◌≡◌, ℕ, suc, ℤ, Bool, true, false, List, [], ◌∷◌, drop, map, if◌then◌else◌}
use Rattle.std.specs.List.{flat_map, list_all}
use Rattle.std.specs.Str.{is_utf8}
use Rattle.sqlite.specs.declared.types.Value.{Value}
use Rattle.sqlite.specs.declared.types.Value.TheVariants as value
use Rattle.sqlite_value.specs.Order.{Row, column}
use Rattle.sqlite_trees.specs.Tree.{Trees}
use Rattle.sqlite_sql.specs.Term.{col}
use Rattle.sqlite_schema.specs.declared.schema.Column.{Column}
use Rattle.sqlite_schema.specs.declared.schema.Kind.{Kind}
use Rattle.sqlite_schema.specs.declared.schema.Kind.TheVariants as kind
use Rattle.sqlite_schema.specs.declared.schema.Table.{Table}
use Rattle.sqlite_rules.specs.Lists.{Has}
use Rattle.registry_rows.specs.Columns.{int_in}
use Rattle.registry_rows.specs.KeyKinds.{numbers}
use Rattle.registry_rows.specs.Statements.{MeansQuery, select_where}
use Rattle.registry_tables.specs.Schema as table
use Rattle.registry_tables.specs.Schema.{schema}
use Rattle.registry_check.specs.declared.problem.Problem.{Problem}
use Rattle.registry_check.specs.declared.problem.Thing.TheVariants as thing
use Rattle.registry_check.specs.declared.rule.Rule.TheVariants.{IsReadable}
use Rattle.registry_check.specs.declared.texts.TextRow.{TextRow}
use Rattle.registry_check.specs.declared.texts.TextTable.{TextTable}
use Rattle.registry_check.specs.declared.texts.TextTable.TheVariants.{Users, Tokens, Organisations, Members, Teams, TeamMembers, Packages, Grants, Maintainers, Versions, Spent, Tags, Needs, Meta, Held, Archives, NeedRanges}

-- ---- where texts are

abbrev pub table_of : TextTable → Table
table_of Users = table.users
table_of Tokens = table.tokens
table_of Organisations = table.organisations
table_of Members = table.members
table_of Teams = table.teams
table_of TeamMembers = table.team_members
table_of Packages = table.packages
table_of Grants = table.grants
table_of Maintainers = table.owners
table_of Versions = table.versions
table_of Spent = table.spent
table_of Tags = table.tags
table_of Needs = table.needs
table_of Meta = table.meta
table_of Held = table.held
table_of Archives = table.archives
table_of NeedRanges = table.need_ranges

-- all tables but the one in which SQLite counts
abbrev pub all_tables : List TextTable
all_tables = Users ∷ Tokens ∷ Organisations ∷ Members ∷ Teams ∷ TeamMembers ∷ Packages ∷ Grants ∷ Maintainers ∷ Versions ∷ Spent ∷ Tags ∷ Needs ∷ Meta ∷ Held ∷ Archives ∷ NeedRanges ∷ []

abbrev pub is_text : Kind → Bool
is_text kind.Text = true
is_text _ = false

-- the places of the columns of texts, which are counted from this one on
abbrev pub text_places : ℕ → List Column → List ℕ
text_places at [] = []
text_places at (c ∷ cs) = if is_text c.kind then at ∷ text_places (suc at) cs else text_places (suc at) cs

-- where the rows of a table have texts
abbrev pub places : TextTable → List ℕ
places t = text_places 0 (table_of t).columns

-- the query shows the texts of the table's rows in the order of their rowids, each row after its
-- rowid
abbrev pub ListsTexts : TextTable → List ℕ → Type 0
ListsTexts t sql = (names : List (List ℕ)) × MeansQuery schema sql (select_where (table_of t) (col 1 0 ∷ map (λ i. col 1 (suc i)) (places t)) [] numbers.order names)

-- ---- whether they are UTF-8

-- what isn't a text can always be read
abbrev pub is_readable : Value → Bool
is_readable (value.Text t) = is_utf8 t
is_readable _ = true

-- each text of the row is UTF-8
abbrev pub are_readable : TextTable → Row → Bool
are_readable t vs = list_all (λ i. is_readable (column vs i)) (places t)

-- each text of each row is
abbrev pub AreTextsReadable : Trees → Type 0
AreTextsReadable db = (t : TextTable) (r : Row) → Has (db (table_of t).tree) r → are_readable t (drop 1 r) ≡ true

-- ---- rows, each as its rowid with whether its texts are UTF-8

abbrev pub text_entry : TextRow → ℤ × Bool
text_entry r = (r.row, r.is_readable)

abbrev pub text_spelled : Row → ℤ × Bool
text_spelled r = (int_in (column r 0), list_all is_readable (drop 1 r))

abbrev pub text_rows : Trees → TextTable → List (ℤ × Bool)
text_rows db t = map (λ r. (numbers.of_row r, are_readable t (drop 1 r))) (db (table_of t).tree)

-- ---- those that have another text

abbrev pub unreadable_row : TextTable → ℤ → Problem
unreadable_row t n = record { rule = IsReadable; thing = thing.Row t n }

-- each such row is a problem
abbrev pub unreadable : TextTable → List (ℤ × Bool) → List Problem
unreadable t rows = flat_map (λ e. if e.1 then [] else unreadable_row t e.0 ∷ []) rows

abbrev pub table_problems : Trees → TextTable → List Problem
table_problems db t = unreadable t (text_rows db t)

-- one table after another
abbrev pub text_problems : Trees → List Problem
text_problems db = flat_map (table_problems db) all_tables
