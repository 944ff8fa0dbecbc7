-- When what was loaded for an action is what the registry holds of it.
use Rattle.std.specs.Prelude.{◌≡◌, ◌||◌, true, Some, map, filter, option_map}
use Rattle.registry_names.specs.Maps.{at, entries, keys, of, pairs_of, parts, seen}
use Rattle.registry_names.specs.Texts.{Text, is}
use Rattle.registry_names.specs.Versions.{text_of_version}
use Rattle.registry_names.specs.Names.{scope_of}
use Rattle.registry_names.specs.Tags.{latest}
use Rattle.registry_access.specs.Levels.{reads}
use Rattle.registry_access.specs.Positions.{level_in}
use Rattle.registry_access.specs.declared.caller.Caller.{Caller}
use Rattle.registry_access.specs.declared.grant.Grant.{Grant}
use Rattle.registry_packument.specs.Heads.{time_entry}
use Rattle.registry_packument.specs.declared.times.PackTimes.{PackTimes}
use Rattle.registry_publish.specs.Form.{FormParts}
use Rattle.registry_rules.specs.Actions.{is_command, version_of}
use Rattle.registry_rules.specs.Refusals.{is_scope}
use Rattle.registry_rules.specs.State.{State, Release, is_live, is_own, is_spent, stands, tokens_of}
use Rattle.registry_rules.specs.Withdrawals.{gone_since, live_versions}
use Rattle.registry_rules.specs.declared.request.Action.{Action}
use Rattle.registry_rules.specs.declared.request.Action.TheVariants.{TokensRemove, Deprecate, VersionDoc, Archive, Tags, Members, Teams, TeamMembers, TeamPackages, Withdraw, WithdrawAll, WhoAmI, Maintainers, OrgPackages, MyPackages, Users, Organisations, Packages}
use Rattle.registry_tables.specs.Contents.{Contents}
use Rattle.registry_tables.specs.Needs.{HoldsNeeds}
use Rattle.registry_tables.specs.Spelled.{document, document_entry, member_entry, published, tag_entry}
use Rattle.registry_tables.specs.Teams.{granted_entry}
use Rattle.registry_laws_history.specs.Answers.{archive_in, asked_release, created_at, levels_in, modified_at, overview, own_name, token_count}
use Rattle.registry_desk.specs.declared.packages.Taken.{Taken}
use Rattle.registry_desk.specs.declared.rows.Rows.{Rows}
use Rattle.registry_desk.specs.declared.rows.Rows.TheVariants as rows

-- These are the moments of the package: when each of its live versions was published, when it was
-- created, and when it was modified last
pub record AreTimesOf (times : PackTimes) (S : State) (p : Text) : Type 0 where
  pub versions : map time_entry times.versions.items ≡ map (seen published) (of S.live p)
  pub created : created_at (of S.live p) (of S.spent p) ≡ Some times.created
  pub modified : modified_at (of S.live p) (of S.spent p) ≡ Some times.modified

-- The rows are those that answer the caller's action. `Nothing` answers a command, except that the
-- live versions answer a deprecation and the withdrawal of all, and the tokens of a user their end;
-- and no rows answer a query for a packument
abbrev pub AreRowsOf : Rows → State → Caller → Action → Type 0
AreRowsOf (rows.Document found) S who (VersionDoc p asked) = option_map document_entry found ≡ option_map document (asked_release S p asked)
AreRowsOf (rows.KnownArchive archive) S who (Archive p v) = archive ≡ archive_in S p (text_of_version v)
AreRowsOf (rows.Archive archive) S who (Archive p v) = archive ≡ option_map (λ (r : Release). r.archive) (at S.live (p, text_of_version v))
AreRowsOf (rows.Tags tags) S who (Tags p) = map tag_entry tags.items ≡ of S.tags p
AreRowsOf (rows.Members members) S who (Members o) = map member_entry members.items ≡ of S.access.roles o
AreRowsOf (rows.Names names) S who (Teams o) = names.items ≡ keys (of S.access.teams o)
AreRowsOf (rows.Names names) S who (TeamMembers o t) = names.items ≡ keys (parts (pairs_of S.access.team_members o) t)
AreRowsOf (rows.Grants granted) S who (TeamPackages o t) =
    map granted_entry granted.items ≡ filter (λ (e : Text × Grant). reads (level_in S.access who e.0)) (parts (pairs_of S.access.grants o) t)
AreRowsOf (rows.OwnName name) S who WhoAmI = name ≡ own_name who
AreRowsOf (rows.Names names) S who (Maintainers p) = names.items ≡ keys (of S.access.maintainers p)
AreRowsOf (rows.Users users) S who Users = users.items ≡ map (token_count S) (keys (entries S.access.users))
AreRowsOf (rows.Names names) S who Organisations = names.items ≡ keys (entries S.access.organisations)
AreRowsOf (rows.Packages packages) S who Packages = packages.items ≡ map (overview S) (entries S.access.statuses)
AreRowsOf (rows.Levels levels) S who (OrgPackages o) = levels.items ≡ levels_in S who (λ p. is_scope o (scope_of p))
AreRowsOf (rows.Levels levels) S who MyPackages = levels.items ≡ levels_in S who (λ p. is_own S.access who p (scope_of p))
AreRowsOf (rows.Digests digests) S who (TokensRemove u) = digests.items ≡ tokens_of S u
AreRowsOf (rows.Live live) S who (Deprecate p selector message) = map text_of_version live.items ≡ live_versions S p
AreRowsOf (rows.Live live) S who (WithdrawAll p) = map text_of_version live.items ≡ live_versions S p
AreRowsOf rows.Nothing S who (TokensRemove u) = ⊥
AreRowsOf rows.Nothing S who (Deprecate p selector message) = ⊥
AreRowsOf rows.Nothing S who (WithdrawAll p) = ⊥
AreRowsOf rows.Nothing S who what = is_command what ≡ true
AreRowsOf _ S who _ = ⊥

-- only a withdrawal is decided by the needs that are stored, so for it they are those of live
-- versions
abbrev pub NeedsFor : Action → Contents → Type 0
NeedsFor (Withdraw p v) c = HoldsNeeds c
NeedsFor (WithdrawAll p) c = HoldsNeeds c
NeedsFor _ c = Unit {0}

-- ---- a part of what decides a publish

-- it says whether the version lives, whether it was withdrawn, whether `latest` is there or is the
-- form's tag, and since when no version of its package lives, if none does
pub record AreTaken (taken : Taken) (S : State) (f : FormParts) : Type 0 where
  pub version_lives : taken.version_lives ≡ is_live S f.name (version_of f)
  pub version_spent : taken.version_spent ≡ is_spent S f.name (version_of f)
  pub latest_stands : taken.latest_stands ≡ (stands S f.name latest || is f.tag latest)
  pub gone_since : taken.gone_since ≡ gone_since S f.name
