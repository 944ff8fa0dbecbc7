-- The rows of the tables as contracts see them: each a key with its value, in the order of the keys.
use Rattle.std.specs.Prelude.{ℕ, ℤ, Bool, List, Option, find, map, option_map}
use Rattle.std.specs.List.{filter}
use Rattle.std.specs.Ordering.{int_eq}
use Rattle.registry_names.specs.Keys.{Pair, Triple}
use Rattle.registry_names.specs.Texts.{Text, is}
use Rattle.registry_names.specs.declared.status.Status.{Status}
use Rattle.registry_access.specs.RowMaps.{organisation_entry, member_entry, team_entry, team_member_entry, grant_entry, package_entry, maintainer_entry}
use Rattle.registry_access.specs.declared.grant.Grant.{Grant}
use Rattle.registry_access.specs.declared.role.Role.{Role}
use Rattle.registry_names.specs.Maps.{entries, seen}
use Rattle.registry_rows.specs.KeyKinds.{NumberMap}
use Rattle.registry_tables.specs.Contents.{Archive, LiveVersion}
use Rattle.registry_check.specs.Counter.{counter_entry}
use Rattle.registry_check.specs.declared.tables.ArchiveRow.{ArchiveRow}
use Rattle.registry_check.specs.declared.tables.FoundArchive.{FoundArchive}
use Rattle.registry_check.specs.declared.tables.HeldRow.{HeldRow}
use Rattle.registry_check.specs.declared.tables.LikeRow.{LikeRow}
use Rattle.registry_check.specs.declared.tables.LiveRow.{LiveRow}
use Rattle.registry_check.specs.declared.tables.NeedRow.{NeedRow}
use Rattle.registry_check.specs.declared.tables.LevelRow.{LevelRow}
use Rattle.registry_check.specs.declared.tables.MomentRow.{MomentRow}
use Rattle.registry_check.specs.declared.tables.RoleRow.{RoleRow}
use Rattle.registry_check.specs.declared.tables.SpentRow.{SpentRow}
use Rattle.registry_check.specs.declared.tables.StatusRow.{StatusRow}
use Rattle.registry_check.specs.declared.tables.TagRow.{TagRow}
use Rattle.registry_check.specs.declared.tables.TargetRow.{TargetRow}
use Rattle.registry_check.specs.declared.tables.Tables.{Tables}
use Rattle.registry_check.specs.declared.tables.TokenRow.{TokenRow}

-- package, version, target and range
abbrev pub NeedKey : Type 0
NeedKey = Text × Triple

-- all rows that are checked
pub record Rows : Type 0 where
  pub users : List (Text × Unit {0})
  -- the user of a token, under the bytes of its digest
  pub tokens : List (Text × Text)
  pub organisations : List (Text × Unit {0})
  -- organisation and user
  pub members : List (Pair × Role)
  -- organisation and team
  pub teams : List (Pair × Unit {0})
  -- organisation, team and user
  pub team_members : List (Triple × Unit {0})
  pub packages : List (Text × Status)
  -- organisation, team and package
  pub grants : List (Triple × Grant)
  -- package and user
  pub maintainers : List (Pair × Unit {0})
  -- package and version
  pub live : List (Pair × LiveVersion)
  pub needs : List (NeedKey × Unit {0})
  -- the number of the archive that a version has, under package and version
  pub held : List (Pair × ℤ)
  -- the integrity that is stored with an archive, under its number
  pub archives : List (ℤ × Text)
  -- the version that a tag names, under package and tag
  pub tags : List (Pair × Text)
  -- package, version and target of the table `needs`
  pub targets : List (Triple × Unit {0})
  -- the numbers of roles, of statuses and of what is granted, under the same keys as these
  pub roles : List (Pair × ℤ)
  pub statuses : List (Text × ℤ)
  pub levels : List (Triple × ℤ)
  -- the number of the moment at which a live version was published
  pub moments : List (Pair × ℤ)
  -- the numbers of those at which a withdrawn version was published and withdrawn
  pub spent : List (Pair × (ℤ × ℤ))
  -- whether nothing but archives is counted, and the count
  pub counter : Bool × Option ℤ

-- ---- the key and the value of each row

abbrev pub user_entry : Text → Text × Unit {0}
user_entry u = (u, tt)

abbrev pub token_entry : TokenRow → Text × Text
token_entry r = (r.digest, r.user)

abbrev pub live_entry : LiveRow → Pair × LiveVersion
live_entry r = ((r.package, r.version), record { published = r.published; manifest = r.manifest; archive = r.archive; message = r.message })

abbrev pub need_entry : NeedRow → NeedKey × Unit {0}
need_entry r = ((r.package, (r.version, (r.target, r.range))), tt)

abbrev pub held_entry : HeldRow → Pair × ℤ
held_entry r = ((r.package, r.version), r.archive)

abbrev pub archive_entry : ArchiveRow → ℤ × Text
archive_entry r = (r.number, r.integrity)

-- the integrity that is stored with an archive, the one of its bytes, and the number of the first
-- archive that is equal to it
abbrev pub Found : Type 0
Found = ℤ × (Text × (Text × Option ℤ))

abbrev pub found_entry : FoundArchive → Found
found_entry r = (r.number, (r.integrity, (r.hashed, r.first)))

-- the number and the bytes of an archive
abbrev pub like_entry : LikeRow → ℤ × List ℕ
like_entry r = (r.number, r.bytes)

-- the bytes of the archive with this number
abbrev pub bytes_under : ℤ → List (ℤ × List ℕ) → Option (List ℕ)
bytes_under n es = option_map (λ (e : ℤ × List ℕ). e.1) (find (λ (e : ℤ × List ℕ). int_eq e.0 n) es)

-- the archives of this integrity: their numbers and bytes, in the order of the numbers
abbrev pub likes_in : Text → NumberMap Archive → List (ℤ × List ℕ)
likes_in integrity m = map (seen (λ (a : Archive). a.bytes)) (filter (λ (e : ℤ × Archive). is integrity e.1.integrity) (entries m))

-- the integrities of archives, in the order of their numbers
abbrev pub integrities : NumberMap Archive → List (ℤ × Text)
integrities m = map (seen (λ (a : Archive). a.integrity)) (entries m)

abbrev pub tag_entry : TagRow → Pair × Text
tag_entry r = ((r.package, r.tag), r.version)

abbrev pub target_entry : TargetRow → Triple × Unit {0}
target_entry r = ((r.package, (r.version, r.target)), tt)

abbrev pub role_entry : RoleRow → Pair × ℤ
role_entry r = ((r.organisation, r.user), r.role)

abbrev pub status_entry : StatusRow → Text × ℤ
status_entry r = (r.package, r.status)

abbrev pub level_entry : LevelRow → Triple × ℤ
level_entry r = ((r.organisation, (r.team, r.package)), r.level)

abbrev pub moment_entry : MomentRow → Pair × ℤ
moment_entry r = ((r.package, r.version), r.published)

abbrev pub spent_entry : SpentRow → Pair × (ℤ × ℤ)
spent_entry r = ((r.package, r.version), (r.published, r.withdrawn))

abbrev pub rows_of : Tables → Rows
rows_of t = record {
  users = map user_entry t.accounts.users.items;
  tokens = map token_entry t.accounts.tokens.items;
  organisations = map organisation_entry t.accounts.organisations.items;
  members = map member_entry t.groups.members.items;
  teams = map team_entry t.groups.teams.items;
  team_members = map team_member_entry t.groups.team_members.items;
  packages = map package_entry t.packages.published.items;
  grants = map grant_entry t.packages.grants.items;
  maintainers = map maintainer_entry t.packages.maintainers.items;
  live = map live_entry t.versions.live.items;
  needs = map need_entry t.versions.needs.items;
  held = map held_entry t.versions.held.items;
  archives = map archive_entry t.versions.archives.items;
  tags = map tag_entry t.marks.tags.items;
  targets = map target_entry t.marks.targets.items;
  roles = map role_entry t.grades.roles.items;
  statuses = map status_entry t.grades.statuses.items;
  levels = map level_entry t.grades.levels.items;
  moments = map moment_entry t.times.moments.items;
  spent = map spent_entry t.times.spent.items;
  counter = counter_entry t.counter;
}
