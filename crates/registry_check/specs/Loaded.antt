-- When the rows that were loaded are those of everything that is stored.
use Rattle.std.specs.Prelude.{◌≡◌, ◌⊎◌, ℕ, IfOk, List, [], Result, map}
use Rattle.sqlite_value.specs.Order.{Row}
use Rattle.sqlite_trees.specs.Tree.{Trees}
use Rattle.sqlite_trees.specs.declared.store.Store.{Ghosts}
use Rattle.sqlite.specs.State.{HasCleanDisk}
use Rattle.sqlite.specs.declared.transaction.Transaction.{Transaction}
use Rattle.registry_access.specs.RowMaps.{grant_entry, maintainer_entry, member_entry, organisation_entry, package_entry, team_entry, team_member_entry}
use Rattle.registry_names.specs.Maps.{entries}
use Rattle.registry_rows.specs.Frames.{Stays}
use Rattle.registry_rows.specs.Ready.{Queried, Reads}
use Rattle.registry_tables.specs.Contents.{Contents, access_of, contents}
use Rattle.registry_tables.specs.Effects.{shown}
use Rattle.registry_tables.specs.Schema.{schema}
use Rattle.registry_check.specs.Numbers.{numbers_in}
use Rattle.registry_check.specs.Right.{rows_at}
use Rattle.registry_check.specs.Rows.{archive_entry, held_entry, integrities, level_entry, live_entry, moment_entry, need_entry, role_entry, rows_of, spent_entry, status_entry, tag_entry, target_entry, token_entry, user_entry}
use Rattle.registry_check.specs.declared.tables.Accounts.{Accounts}
use Rattle.registry_check.specs.declared.tables.Groups.{Groups}
use Rattle.registry_check.specs.declared.tables.Grades.{Grades}
use Rattle.registry_check.specs.declared.tables.Marks.{Marks}
use Rattle.registry_check.specs.declared.tables.Packages.{Packages}
use Rattle.registry_check.specs.declared.tables.Tables.{Tables}
use Rattle.registry_check.specs.declared.tables.Times.{Times}
use Rattle.registry_check.specs.declared.tables.Versions.{Versions}

-- A query with no parameters was answered, and the first condition holds of its rows; or it failed,
-- and the second holds.
abbrev pub Finds : {S : Type 0} → Ghosts S → List ℕ → Transaction S → Transaction S → (List Row → Type 0) → Type 0 → Type 0
Finds store sql old new is_told failed = ((rows : List Row) × (Queried sql [] (shown store old) (shown store new) rows × is_told rows)) ⊎ (Stays store old new × failed)

-- an answer is determined by the rows of the tables, and leaves everything as it was
abbrev pub Tells : {S R E : Type 0} → Ghosts S → Transaction S → Transaction S → Result R E → (R → Trees → Type 0) → Type 0
Tells store old new result is_told = HasCleanDisk (shown store new) → IfOk result (λ answer. Reads schema (shown store old) (shown store new) × is_told answer (shown store old).now.trees)

pub record AreAccounts (accounts : Accounts) (c : Contents) : Type 0 where
  pub users : map user_entry accounts.users.items ≡ entries c.users
  pub tokens : map token_entry accounts.tokens.items ≡ entries c.tokens
  pub organisations : map organisation_entry accounts.organisations.items ≡ entries c.organisations

pub record AreGroups (groups : Groups) (c : Contents) : Type 0 where
  pub members : map member_entry groups.members.items ≡ entries (access_of c).roles
  pub teams : map team_entry groups.teams.items ≡ entries c.teams
  pub team_members : map team_member_entry groups.team_members.items ≡ entries c.team_members

pub record ArePackages (packages : Packages) (c : Contents) : Type 0 where
  pub published : map package_entry packages.published.items ≡ entries (access_of c).statuses
  pub grants : map grant_entry packages.grants.items ≡ entries (access_of c).grants
  pub maintainers : map maintainer_entry packages.maintainers.items ≡ entries c.owners

pub record AreVersions (versions : Versions) (c : Contents) : Type 0 where
  pub live : map live_entry versions.live.items ≡ entries c.versions
  pub needs : map need_entry versions.needs.items ≡ entries c.need_ranges
  pub held : map held_entry versions.held.items ≡ entries c.held
  pub archives : map archive_entry versions.archives.items ≡ integrities c.archives

pub record AreMarks (marks : Marks) (c : Contents) : Type 0 where
  pub tags : map tag_entry marks.tags.items ≡ entries c.tags
  pub targets : map target_entry marks.targets.items ≡ entries c.needs

pub record AreGrades (grades : Grades) (db : Trees) : Type 0 where
  pub roles : map role_entry grades.roles.items ≡ entries (numbers_in (contents db)).roles
  pub statuses : map status_entry grades.statuses.items ≡ entries (numbers_in (contents db)).statuses
  pub levels : map level_entry grades.levels.items ≡ entries (numbers_in (contents db)).levels

pub record AreTimes (times : Times) (db : Trees) : Type 0 where
  pub moments : map moment_entry times.moments.items ≡ entries (numbers_in (contents db)).moments
  pub spent : map spent_entry times.spent.items ≡ entries (numbers_in (contents db)).spent

-- all of them
abbrev pub AreTables : Tables → Trees → Type 0
AreTables tables db = rows_of tables ≡ rows_at db
