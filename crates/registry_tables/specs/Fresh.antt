-- The tables as they are made, and what they hold then.
use Rattle.std.specs.Prelude.{◌≡◌, ◌-◌, ℕ, [], ◌∷◌, ◌++◌, None, map, take, codes, pos, nat_lt, if◌then◌else◌}
use Rattle.sqlite_schema.specs.declared.schema.Schema.{Schema}
use Rattle.sqlite_trees.specs.declared.store.Store.{Ghosts}
use Rattle.sqlite.specs.State.{HasCleanDisk}
use Rattle.sqlite.specs.declared.transaction.Transaction.{Transaction}
use Rattle.registry_names.specs.Texts.{Text}
use Rattle.registry_names.specs.Maps.{empty, put}
use Rattle.registry_rows.specs.Tables.{key_index}
use Rattle.registry_rows.specs.Ready.{Blank}
use Rattle.registry_tables.specs.Schema.{keyed, last_indexes, need_ranges, schema, schema_2}
use Rattle.registry_tables.specs.Contents.{Contents}
use Rattle.registry_tables.specs.Effects.{shown}

-- a schema of this many tables: the first of those with a primary key of columns
abbrev pub first_tables : ℕ → Schema
first_tables n = record { tables = take n keyed; indexes = map key_index (take n keyed); views = [] }

-- what this many of the first texts make: 15 tables with such a key, then that of the archives
-- with the one that counts beside it, their index, the table of needs, and the last indexes
abbrev pub schema_after : ℕ → Schema
schema_after n =
    if nat_lt 17 n then record schema { indexes = schema_2.indexes ++ key_index need_ranges ∷ take (n - 18) last_indexes }
    else (if nat_lt 16 n then schema_2
    else (if nat_lt 15 n then record schema_2 { indexes = map key_index keyed }
    else first_tables n))

-- where the number of the schema is, and which one it is
abbrev pub schema_key : Text
schema_key = codes "schema"

abbrev pub schema_number : ℕ
schema_number = 3

abbrev pub with_number : Contents → ℕ → Contents
with_number c n = record c { meta = put c.meta schema_key (pos n) }

-- SQLite counts for the archives, and for nothing else
abbrev pub CountsArchivesAlone : Contents → Type 0
CountsArchivesAlone c = c.counters ≡ []

-- what tables without rows hold
abbrev pub no_contents : Contents
no_contents = record { users = empty; tokens = empty; organisations = empty; members = empty; teams = empty; team_members = empty; packages = empty; grants = empty; owners = empty; versions = empty; spent = empty; tags = empty; needs = empty; meta = empty; need_ranges = empty; held = empty; archives = empty; last_archive = None; counters = [] }

-- a registry of which nothing was asked yet
abbrev pub fresh : Contents
fresh = with_number no_contents schema_number

-- what this many of the first texts make is there and empty, and the transaction goes on, as long
-- as the disk is clean
abbrev pub HasMade : {S : Type 0} → Ghosts S → ℕ → Transaction S → Type 0
HasMade store n tx = HasCleanDisk (shown store tx) → Blank (schema_after n) (shown store tx)
