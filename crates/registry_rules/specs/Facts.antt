-- When what a decision rests on is what the registry holds of a request.
use Rattle.std.specs.Prelude.{◌≡◌, ◌||◌, ℕ, Bool, List, map, Option, Some}
use Rattle.registry_names.specs.Maps.{at}
use Rattle.registry_names.specs.Tags.{latest}
use Rattle.registry_names.specs.Versions.{VersionParts, text_of_version}
use Rattle.registry_names.specs.Texts.{Text, is}
use Rattle.registry_access.specs.Agreement.{SameOrganisation}
use Rattle.registry_access.specs.Positions.{has_organisation}
use Rattle.registry_access.specs.RowMaps.{state_of}
use Rattle.registry_access.specs.RowsFor.{StandingTells, TellsMaintainer, TellsReader}
use Rattle.registry_access.specs.declared.standing.Standing.{Standing}
use Rattle.registry_access.specs.declared.caller.Caller.{Caller}
use Rattle.registry_access.specs.declared.role.Role.{Role}
use Rattle.registry_access.specs.declared.rows.AccessRows.{AccessRows}
use Rattle.registry_publish.specs.Form.{FormParts}
use Rattle.registry_rules.specs.Actions.{version_of}
use Rattle.registry_rules.specs.Callers.{caller_of}
use Rattle.registry_rules.specs.State.{State, has_user, has_team, is_member, is_in_team, has_grant, is_published, has_maintainer, has_other_maintainer, has_other_owner, has_token, tokens_of, is_live, is_spent, has_live, stands, asked_version, lives}
use Rattle.registry_rules.specs.Withdrawals.{all_tags, is_any_depended, is_depended, gone_since, live_since, live_versions, published_at, tags_of}
use Rattle.registry_rules.specs.declared.facts.About.{About}
use Rattle.registry_rules.specs.declared.facts.About.TheVariants as about
use Rattle.registry_rules.specs.declared.facts.Facts.{Facts}
use Rattle.registry_rules.specs.declared.facts.LiveVersion.{LiveVersion}
use Rattle.registry_rules.specs.declared.facts.PublishFacts.{PublishFacts}
use Rattle.registry_rules.specs.declared.request.Action.{Action}
use Rattle.registry_rules.specs.declared.request.Action.TheVariants.{UserAdd, TokenAdd, TokenRemove, TokensRemove, OrgCreate, OrgSet, OrgRemove, TeamCreate, TeamDestroy, TeamAdd, TeamRemove, Grant, Revoke, SetAccess, OwnerAdd, OwnerRemove, Publish, TagSet, TagRemove, Withdraw, WithdrawAll, Deprecate, Packument, AbbreviatedPackument, RevisedPackument, VersionDoc, Archive, Tags, Members, Teams, TeamMembers, TeamPackages, WhoAmI, Maintainers, OrgPackages, MyPackages, Users, Organisations, Packages}
use Rattle.registry_rules.specs.declared.request.Request.{Request}

pub record ArePublishFacts (facts : PublishFacts) (S : State) (who : Caller) (f : FormParts) : Type 0 where
  pub standing : StandingTells facts.standing S.access who f.name
  pub version_lives : facts.version_lives ≡ is_live S f.name (version_of f)
  pub version_spent : facts.version_spent ≡ is_spent S f.name (version_of f)
  pub latest_stands : facts.latest_stands ≡ (stands S f.name latest || is f.tag latest)
  pub gone_since : facts.gone_since ≡ gone_since S f.name

-- the rows say of the organisation, and of the caller's role in it, what the registry holds
abbrev pub SayOf : AccessRows → State → Caller → Text → Type 0
SayOf rows S who o = SameOrganisation (state_of rows) S.access who o

-- of a user and an organisation
pub record AreMemberFacts (rows : AccessRows) (exists : Bool) (old : Option Role) (other : Bool) (S : State) (who : Caller) (o u : Text) : Type 0 where
  pub rows_say : SayOf rows S who o
  pub user_exists : exists ≡ has_user S u
  pub role : old ≡ at S.access.roles (o, u)
  pub other_owner : other ≡ has_other_owner S o u

-- of a user and a team
pub record AreTeamMemberFacts (rows : AccessRows) (there member already : Bool) (S : State) (who : Caller) (o t u : Text) : Type 0 where
  pub rows_say : SayOf rows S who o
  pub team_exists : there ≡ has_team S o t
  pub is_member : member ≡ is_member S o u
  pub is_in_team : already ≡ is_in_team S o t u

pub record AreGrantFacts (rows : AccessRows) (there published stood : Bool) (S : State) (who : Caller) (o t p : Text) : Type 0 where
  pub rows_say : SayOf rows S who o
  pub team_exists : there ≡ has_team S o t
  pub is_published : published ≡ is_published S p
  pub stands : stood ≡ has_grant S o t p

pub record AreOwnerAddFacts (standing : Standing) (exists already : Bool) (S : State) (who : Caller) (p u : Text) : Type 0 where
  pub standing_tells : TellsMaintainer standing S.access who p
  pub user_exists : exists ≡ has_user S u
  pub is_maintainer : already ≡ has_maintainer S p u

pub record AreOwnerRemoveFacts (standing : Standing) (maintainer other : Bool) (S : State) (who : Caller) (p u : Text) : Type 0 where
  pub standing_tells : TellsMaintainer standing S.access who p
  pub is_maintainer : maintainer ≡ has_maintainer S p u
  pub other_maintainer : other ≡ has_other_maintainer S p u

pub record AreWithdrawFacts (standing : Standing) (since : Option ℕ) (needed : Bool) (named : List Text) (living : List VersionParts) (S : State) (who : Caller) (p : Text) (v : VersionParts) : Type 0 where
  pub standing_tells : StandingTells standing S.access who p
  pub published : since ≡ published_at S p (text_of_version v)
  pub depended : needed ≡ is_depended S p v
  pub tags : named ≡ tags_of S p (text_of_version v)
  pub live : map text_of_version living ≡ live_versions S p

-- a live version, and when it was published
abbrev pub since_of : LiveVersion → Text × ℕ
since_of r = (text_of_version r.version, r.published)

pub record AreWithdrawAllFacts (standing : Standing) (needed : Bool) (named : List Text) (living : List LiveVersion) (S : State) (who : Caller) (p : Text) : Type 0 where
  pub standing_tells : StandingTells standing S.access who p
  pub depended : needed ≡ is_any_depended S p
  pub tags : named ≡ all_tags S p
  pub live : map since_of living ≡ live_since S p

-- What is said of a caller's action holds. What is said of another subject agrees with no state
abbrev pub AboutTells : About → State → Caller → Action → Type 0
AboutTells (about.UserAdd exists) S who (UserAdd u) = exists ≡ has_user S u
AboutTells (about.TokenAdd user_exists exists) S who (TokenAdd u digest) = (user_exists ≡ has_user S u) × (exists ≡ has_token S digest)
AboutTells (about.TokenRemove user) S who (TokenRemove digest) = user ≡ at S.access.tokens digest
AboutTells (about.TokensRemove user_exists digests) S who (TokensRemove u) = (user_exists ≡ has_user S u) × (digests.items ≡ tokens_of S u)
AboutTells (about.OrgCreate owner_exists exists) S who (OrgCreate o u) = (owner_exists ≡ has_user S u) × (exists ≡ has_organisation S.access o)
AboutTells (about.Member rows user_exists role other_owner) S who (OrgSet o u new) = AreMemberFacts rows user_exists role other_owner S who o u
AboutTells (about.Member rows user_exists role other_owner) S who (OrgRemove o u) = AreMemberFacts rows user_exists role other_owner S who o u
AboutTells (about.Team rows exists) S who (TeamCreate o t) = SayOf rows S who o × (exists ≡ has_team S o t)
AboutTells (about.Team rows exists) S who (TeamDestroy o t) = SayOf rows S who o × (exists ≡ has_team S o t)
AboutTells (about.TeamMember rows team_exists member already) S who (TeamAdd o t u) = AreTeamMemberFacts rows team_exists member already S who o t u
AboutTells (about.TeamMember rows team_exists member already) S who (TeamRemove o t u) = AreTeamMemberFacts rows team_exists member already S who o t u
AboutTells (about.Grant rows team_exists published stood) S who (Grant o t p grant) = AreGrantFacts rows team_exists published stood S who o t p
AboutTells (about.Grant rows team_exists published stood) S who (Revoke o t p) = AreGrantFacts rows team_exists published stood S who o t p
AboutTells (about.Rights standing) S who (SetAccess p status) = StandingTells standing S.access who p
AboutTells (about.OwnerAdd standing user_exists already) S who (OwnerAdd p u) = AreOwnerAddFacts standing user_exists already S who p u
AboutTells (about.OwnerRemove standing maintainer other) S who (OwnerRemove p u) = AreOwnerRemoveFacts standing maintainer other S who p u
AboutTells (about.Publish facts) S who (Publish f) = ArePublishFacts facts S who f
AboutTells (about.TagSet standing version_lives) S who (TagSet p t v) = StandingTells standing S.access who p × (version_lives ≡ is_live S p (text_of_version v))
AboutTells (about.TagRemove standing tag_stands) S who (TagRemove p t) = StandingTells standing S.access who p × (tag_stands ≡ stands S p t)
AboutTells (about.Withdraw standing published depended tags live) S who (Withdraw p v) = AreWithdrawFacts standing published depended tags.items live.items S who p v
AboutTells (about.WithdrawAll standing depended tags live) S who (WithdrawAll p) = AreWithdrawAllFacts standing depended tags.items live.items S who p
AboutTells (about.Deprecate standing live) S who (Deprecate p selector message) = StandingTells standing S.access who p × (map text_of_version live.items ≡ live_versions S p)
AboutTells (about.Version standing found) S who (VersionDoc p asked) = TellsReader standing S.access who p × (found ≡ lives S p (asked_version S p asked))
AboutTells (about.Version standing found) S who (Archive p v) = TellsReader standing S.access who p × (found ≡ is_live S p (text_of_version v))
AboutTells (about.Package standing found) S who (Packument p) = TellsReader standing S.access who p × (found ≡ has_live S p)
AboutTells (about.Package standing found) S who (AbbreviatedPackument p) = TellsReader standing S.access who p × (found ≡ has_live S p)
AboutTells (about.Package standing found) S who (RevisedPackument p) = TellsReader standing S.access who p × (found ≡ has_live S p)
AboutTells (about.Package standing found) S who (Tags p) = TellsReader standing S.access who p × (found ≡ has_live S p)
AboutTells (about.Organisation rows) S who (Members o) = SayOf rows S who o
AboutTells (about.Organisation rows) S who (Teams o) = SayOf rows S who o
AboutTells (about.Organisation rows) S who (OrgPackages o) = SayOf rows S who o
AboutTells (about.Team rows exists) S who (TeamMembers o t) = SayOf rows S who o × (exists ≡ has_team S o t)
AboutTells (about.Team rows exists) S who (TeamPackages o t) = SayOf rows S who o × (exists ≡ has_team S o t)
AboutTells (about.Rights standing) S who (Maintainers p) = TellsReader standing S.access who p
AboutTells about.Nothing S who WhoAmI = Unit {0}
AboutTells about.Nothing S who MyPackages = Unit {0}
AboutTells about.Nothing S who Users = Unit {0}
AboutTells about.Nothing S who Organisations = Unit {0}
AboutTells about.Nothing S who Packages = Unit {0}
AboutTells _ S who _ = ⊥

-- The facts are what the registry holds for the request. Nothing has to be said of an action of
-- nobody
pub record FactsTell (facts : Facts) (S : State) (r : Request) : Type 0 where
  pub caller : facts.caller ≡ caller_of S r.who
  pub about : (who : Caller) → facts.caller ≡ Some who → AboutTells facts.about S who r.what
