-- What the rows of the tables say, and the registry's state that follows from it. Where a row had a
-- value of another type, it would say nothing there, 0 or the empty text.
use Rattle.std.specs.Prelude.{ℕ, ℤ, List, [], Option, option_map, option_and_then, unwrap_or}
use Rattle.sqlite.specs.declared.types.Value.{Value}
use Rattle.sqlite_value.specs.Order.{Row, column}
use Rattle.sqlite_trees.specs.Tree.{Trees}
use Rattle.registry_names.specs.Texts.{Text}
use Rattle.registry_names.specs.Keys.{Pair}
use Rattle.registry_names.specs.Maps.{TextMap, PairMap, TripleMap, at}
use Rattle.registry_access.specs.Access.{Access}
use Rattle.registry_rules.specs.State.{State, Release, Withdrawal}
use Rattle.registry_rows.specs.Columns.{text_in, blob_in, int_in}
use Rattle.registry_rows.specs.Counting.{count_value, other_counts}
use Rattle.registry_rows.specs.KeyKinds.{BytesMap, NumberMap, bytes, numbers, map_by}
use Rattle.registry_rows.specs.Rows.{map_of}
use Rattle.registry_rows.specs.TextKeys.{TextsMap}
use Rattle.registry_tables.specs.Numbers.{grant_of, role_of, seconds_of, status_of}
use Rattle.registry_tables.specs.ReadMaps.{read_as}
use Rattle.registry_tables.specs.Schema as table

-- ---- the value that a row puts under its key

abbrev pub nothing_in : Row → Unit {0}
nothing_in vs = tt

-- the number of a package's status
abbrev pub status_in : Row → ℤ
status_in vs = int_in (column vs 1)

-- that of a member's role
abbrev pub role_in : Row → ℤ
role_in vs = int_in (column vs 2)

-- that of what is granted
abbrev pub grant_in : Row → ℤ
grant_in vs = int_in (column vs 3)

-- a live version, as its row has it
pub record LiveVersion : Type 0 where
  -- when it was published, in seconds
  pub published : ℤ
  pub manifest : Text
  -- the bytes in the row itself
  pub archive : List ℕ
  -- of its deprecation; empty where it isn't deprecated
  pub message : Text

abbrev pub version_in : Row → LiveVersion
version_in vs = record { published = int_in (column vs 2); manifest = text_in (column vs 3); archive = blob_in (column vs 5); message = text_in (column vs 4) }

-- a version that was withdrawn, as its row has it: when it was published, and when withdrawn
pub record SpentVersion : Type 0 where
  pub published : ℤ
  pub withdrawn : ℤ

abbrev pub spent_in : Row → SpentVersion
spent_in vs = record { published = int_in (column vs 2); withdrawn = int_in (column vs 3) }

-- the user of a token
abbrev pub user_in : Row → Text
user_in vs = text_in (column vs 1)

-- the version that a tag names
abbrev pub named_in : Row → Text
named_in vs = text_in (column vs 2)

abbrev pub number_named_in : Row → ℤ
number_named_in vs = int_in (column vs 1)

-- an archive that is stored: its integrity and its bytes
pub record Archive : Type 0 where
  pub integrity : Text
  pub bytes : List ℕ

abbrev pub archive_in : Row → Archive
archive_in vs = record { integrity = text_in (column vs 1); bytes = blob_in (column vs 2) }

-- the number of an archive
abbrev pub held_in : Row → ℤ
held_in vs = int_in (column vs 2)

-- ---- the tables

-- all that is stored: one map a table. Roles, statuses, what is granted and moments are the numbers
-- that columns have
pub record Contents : Type 0 where
  pub users : TextMap (Unit {0})
  -- the user of a token, under the bytes of its digest
  pub tokens : BytesMap Text
  pub organisations : TextMap (Unit {0})
  -- the number of a role, under organisation and user
  pub members : PairMap ℤ
  -- organisation and team
  pub teams : PairMap (Unit {0})
  -- organisation, team and user
  pub team_members : TripleMap (Unit {0})
  -- the number of a status
  pub packages : TextMap ℤ
  -- the number of what is granted, under organisation, team and package
  pub grants : TripleMap ℤ
  -- package and user
  pub owners : PairMap (Unit {0})
  -- package and version; an archive here is what the row has, and no row has bytes
  pub versions : PairMap LiveVersion
  -- package and version
  pub spent : PairMap SpentVersion
  -- the version that a tag names, under package and tag
  pub tags : PairMap Text
  -- package, version and target. No call puts one: `need_ranges` has the ranges too
  pub needs : TripleMap (Unit {0})
  -- the number of the schema, under `schema`
  pub meta : TextMap ℤ
  -- what live versions depend on: package, version, target and range
  pub need_ranges : TextsMap 3 (Unit {0})
  -- the number of the archive that a live version has, under package and version
  pub held : PairMap ℤ
  -- the archives under their numbers
  pub archives : NumberMap Archive
  -- the highest number that an archive has had, as SQLite keeps it. None before the first
  pub last_archive : Option Value
  -- the rows of `sqlite_sequence` besides that number. No call puts one
  pub counters : List Row

abbrev pub contents : Trees → Contents
contents db = record {
  users = map_of 0 nothing_in (db table.users.tree);
  tokens = map_by bytes user_in (db table.tokens.tree);
  organisations = map_of 0 nothing_in (db table.organisations.tree);
  members = map_of 1 role_in (db table.members.tree);
  teams = map_of 1 nothing_in (db table.teams.tree);
  team_members = map_of 2 nothing_in (db table.team_members.tree);
  packages = map_of 0 status_in (db table.packages.tree);
  grants = map_of 2 grant_in (db table.grants.tree);
  owners = map_of 1 nothing_in (db table.owners.tree);
  versions = map_of 1 version_in (db table.versions.tree);
  spent = map_of 1 spent_in (db table.spent.tree);
  tags = map_of 1 named_in (db table.tags.tree);
  needs = map_of 2 nothing_in (db table.needs.tree);
  meta = map_of 0 number_named_in (db table.meta.tree);
  need_ranges = map_of 3 nothing_in (db table.need_ranges.tree);
  held = map_of 1 held_in (db table.held.tree);
  archives = map_by numbers archive_in (db table.archives.tree);
  last_archive = count_value table.archives.name (db table.counters.tree);
  counters = other_counts table.archives.name (db table.counters.tree);
}

-- ---- the registry's state, of what is stored

abbrev pub access_of : Contents → Access
access_of c = record {
  users = c.users;
  tokens = c.tokens;
  organisations = c.organisations;
  roles = read_as c.members (λ _ n. role_of n);
  teams = c.teams;
  team_members = c.team_members;
  grants = read_as c.grants (λ _ n. grant_of n);
  statuses = read_as c.packages (λ _ n. status_of n);
  maintainers = c.owners;
}

-- the bytes of the archive that a version has. Where it has none that is stored, there are no bytes
abbrev pub bytes_held : Contents → Pair → List ℕ
bytes_held c k = unwrap_or (option_map (λ (a : Archive). a.bytes) (option_and_then (at c.archives) (at c.held k))) []

-- what its row says of a version
abbrev pub as_release : LiveVersion → Release
as_release v = record { at = seconds_of v.published; manifest = v.manifest; archive = v.archive; message = v.message }

-- the same, with the bytes of its archive
abbrev pub with_bytes : Contents → Pair → LiveVersion → Release
with_bytes c k v = record (as_release v) { archive = bytes_held c k }

-- the live versions, each read from three tables
abbrev pub live_of : Contents → PairMap Release
live_of c = read_as c.versions (with_bytes c)

abbrev pub as_withdrawal : SpentVersion → Withdrawal
as_withdrawal v = record { published = seconds_of v.published; withdrawn = seconds_of v.withdrawn }

abbrev pub registry_of : Contents → State
registry_of c = record { access = access_of c; live = live_of c; spent = read_as c.spent (λ _ v. as_withdrawal v); tags = c.tags }
