-- The schemas that came before, and what a registry of one of them holds.
use Rattle.std.specs.Prelude.{ℕ, [], None}
use Rattle.sqlite_schema.specs.declared.schema.Schema.{Schema}
use Rattle.sqlite_trees.specs.Tree.{Trees}
use Rattle.registry_names.specs.Maps.{PairMap, empty}
use Rattle.registry_rules.specs.State.{Release, State}
use Rattle.registry_tables.specs.Contents.{Contents, as_release, contents, registry_of}
use Rattle.registry_tables.specs.Fresh.{first_tables}
use Rattle.registry_tables.specs.ReadMaps.{read_as}
use Rattle.registry_tables.specs.Schema.{schema_2}
use Rattle.registry_migration.specs.declared.older.Older.{Older}
use Rattle.registry_migration.specs.declared.older.Older.TheVariants.{First, Second}

-- the tables up to `meta`
abbrev pub schema_1 : Schema
schema_1 = first_tables 14

abbrev pub schema_of : Older → Schema
schema_of First = schema_1
schema_of Second = schema_2

-- how many of the texts that make the tables are those of the schema
abbrev pub text_count : Older → ℕ
text_count First = 14
text_count Second = 17

abbrev pub number_of : Older → ℕ
number_of First = 1
number_of Second = 2

-- all that is stored in tables of schema 2: one that isn't there has no row
abbrev pub contents_2 : Trees → Contents
contents_2 db = record (contents db) { need_ranges = empty }

-- the same of schema 1
abbrev pub contents_1 : Trees → Contents
contents_1 db = record (contents_2 db) { held = empty; archives = empty; last_archive = None; counters = [] }

abbrev pub contents_of : Older → Trees → Contents
contents_of First = contents_1
contents_of Second = contents_2

-- the live versions, each read from its row alone
abbrev pub live_in_rows : Contents → PairMap Release
live_in_rows c = read_as c.versions (λ _ r. as_release r)

-- the registry's state by that. In schema 1 a version's archive is in its row
abbrev pub registry_of_older : Older → Contents → State
registry_of_older First c = record (registry_of c) { live = live_in_rows c }
registry_of_older Second c = registry_of c
