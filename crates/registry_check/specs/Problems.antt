-- What breaks a rule: for each row, each rule that is tried on it and doesn't hold.
use Rattle.std.specs.Prelude.{ℤ, Bool, Option, List, [], ◌∷◌, ◌++◌, if◌then◌else◌}
use Rattle.std.specs.List.{flat_map}
use Rattle.registry_names.specs.Keys.{Pair, Triple}
use Rattle.registry_names.specs.Maps.{entries}
use Rattle.registry_names.specs.Texts.{Text}
use Rattle.registry_names.specs.declared.status.Status.{Status}
use Rattle.registry_access.specs.declared.grant.Grant.{Grant}
use Rattle.registry_access.specs.declared.role.Role.{Role}
use Rattle.registry_rows.specs.KeyKinds.{NumberMap}
use Rattle.registry_tables.specs.Contents.{Archive, LiveVersion}
use Rattle.registry_check.specs.FormRules.{counter_forms, level_forms, maintainer_forms, moment_forms, number_forms, organisation_forms, package_forms, role_forms, spent_forms, status_forms, tag_forms, target_forms, team_forms, token_forms, user_forms, version_forms}
use Rattle.registry_check.specs.Rows.{Found, NeedKey, Rows}
use Rattle.registry_check.specs.Rules.{token_tests, organisation_tests, member_tests, team_tests, team_member_tests, package_tests, grant_tests, maintainer_tests, live_tests, need_tests, held_tests, archive_tests}
use Rattle.registry_check.specs.declared.problem.Problem.{Problem}
use Rattle.registry_check.specs.declared.problem.Test.{Test}
use Rattle.registry_check.specs.declared.problem.Thing.{Thing}
use Rattle.registry_check.specs.declared.problem.Thing.TheVariants as thing

-- the rule, where it doesn't hold
abbrev pub fault_of : Thing → Test → List Problem
fault_of thing t = if t.holds then [] else record { rule = t.rule; thing = thing } ∷ []

-- the rules that do not hold of a thing
abbrev pub broken : Thing → List Test → List Problem
broken thing tests = flat_map (fault_of thing) tests

-- each row's problems, one row after another
abbrev pub problems_of : {E : Type 0} → (E → Thing) → (E → List Test) → List E → List Problem
problems_of thing tests rows = flat_map (λ e. broken (thing e) (tests e)) rows

-- ---- what each row is about

abbrev pub token : Text × Text → Thing
token e = thing.Token e.0

abbrev pub organisation : Text × Unit {0} → Thing
organisation e = thing.Organisation e.0

abbrev pub member : Pair × Role → Thing
member e = thing.Member e.0.0 e.0.1

abbrev pub team : Pair × Unit {0} → Thing
team e = thing.Team e.0.0 e.0.1

abbrev pub team_member : Triple × Unit {0} → Thing
team_member e = thing.TeamMember e.0.0 e.0.1.0 e.0.1.1

abbrev pub package_of : Text × Status → Thing
package_of e = thing.Package e.0

abbrev pub grant : Triple × Grant → Thing
grant e = thing.Grant e.0.0 e.0.1.0 e.0.1.1

abbrev pub maintainer : Pair × Unit {0} → Thing
maintainer e = thing.Maintainer e.0.0 e.0.1

abbrev pub version : Pair × LiveVersion → Thing
version e = thing.Version e.0.0 e.0.1

abbrev pub need : NeedKey × Unit {0} → Thing
need e = thing.Need e.0.0 e.0.1.0 e.0.1.1.0 e.0.1.1.1

abbrev pub held : Pair × ℤ → Thing
held e = thing.Held e.0.0 e.0.1

abbrev pub archive : ℤ × Archive → Thing
archive e = thing.Archive e.0

abbrev pub found : Found → Thing
found e = thing.Archive e.0

abbrev pub user : Text × Unit {0} → Thing
user e = thing.User e.0

abbrev pub role : Pair × ℤ → Thing
role e = thing.Member e.0.0 e.0.1

abbrev pub status : Text × ℤ → Thing
status e = thing.Package e.0

abbrev pub level : Triple × ℤ → Thing
level e = thing.Grant e.0.0 e.0.1.0 e.0.1.1

abbrev pub moment : Pair × ℤ → Thing
moment e = thing.Version e.0.0 e.0.1

abbrev pub withdrawn : Pair × (ℤ × ℤ) → Thing
withdrawn e = thing.Withdrawn e.0.0 e.0.1

abbrev pub tag : Pair × Text → Thing
tag e = thing.Tag e.0.0 e.0.1

abbrev pub target : Triple × Unit {0} → Thing
target e = thing.Target e.0.0 e.0.1.0 e.0.1.1

abbrev pub number : ℤ × Text → Thing
number e = thing.Archive e.0

abbrev pub counter : Bool × Option ℤ → Thing
counter e = thing.Counter

-- ---- the problems of each table

abbrev pub token_problems : Rows → List Problem
token_problems R = problems_of token (token_tests R) R.tokens

abbrev pub organisation_problems : Rows → List Problem
organisation_problems R = problems_of organisation (organisation_tests R) R.organisations

abbrev pub member_problems : Rows → List Problem
member_problems R = problems_of member (member_tests R) R.members

abbrev pub team_problems : Rows → List Problem
team_problems R = problems_of team (team_tests R) R.teams

abbrev pub team_member_problems : Rows → List Problem
team_member_problems R = problems_of team_member (team_member_tests R) R.team_members

abbrev pub published_problems : Rows → List Problem
published_problems R = problems_of package_of (package_tests R) R.packages

abbrev pub grant_problems : Rows → List Problem
grant_problems R = problems_of grant (grant_tests R) R.grants

abbrev pub maintainer_problems : Rows → List Problem
maintainer_problems R = problems_of maintainer (maintainer_tests R) R.maintainers

abbrev pub live_problems : Rows → List Problem
live_problems R = problems_of version (live_tests R) R.live

abbrev pub need_problems : Rows → List Problem
need_problems R = problems_of need (need_tests R) R.needs

abbrev pub held_problems : Rows → List Problem
held_problems R = problems_of held (held_tests R) R.held

abbrev pub archive_problems : Rows → NumberMap Archive → List Problem
archive_problems R A = problems_of archive (archive_tests R A) (entries A)

-- of references and needs
abbrev pub reference_problems : Rows → List Problem
reference_problems R = token_problems R ++ organisation_problems R ++ member_problems R ++ team_problems R ++ team_member_problems R
    ++ published_problems R ++ grant_problems R ++ maintainer_problems R ++ live_problems R ++ need_problems R ++ held_problems R

-- and of archives. `A` is all of them, with their bytes
abbrev pub premise_problems : Rows → NumberMap Archive → List Problem
premise_problems R A = reference_problems R ++ archive_problems R A

-- ---- the problems of form of each table

abbrev pub user_form_problems : Rows → List Problem
user_form_problems R = problems_of user (user_forms R) R.users

abbrev pub token_form_problems : Rows → List Problem
token_form_problems R = problems_of token (token_forms R) R.tokens

abbrev pub organisation_form_problems : Rows → List Problem
organisation_form_problems R = problems_of organisation (organisation_forms R) R.organisations

abbrev pub team_form_problems : Rows → List Problem
team_form_problems R = problems_of team (team_forms R) R.teams

abbrev pub package_form_problems : Rows → List Problem
package_form_problems R = problems_of package_of (package_forms R) R.packages

abbrev pub maintainer_form_problems : Rows → List Problem
maintainer_form_problems R = problems_of maintainer (maintainer_forms R) R.maintainers

abbrev pub role_problems : Rows → List Problem
role_problems R = problems_of role (role_forms R) R.roles

abbrev pub status_problems : Rows → List Problem
status_problems R = problems_of status (status_forms R) R.statuses

abbrev pub level_problems : Rows → List Problem
level_problems R = problems_of level (level_forms R) R.levels

abbrev pub moment_problems : Rows → List Problem
moment_problems R = problems_of moment (moment_forms R) R.moments

abbrev pub version_form_problems : Rows → List Problem
version_form_problems R = problems_of version (version_forms R) R.live

abbrev pub spent_problems : Rows → List Problem
spent_problems R = problems_of withdrawn (spent_forms R) R.spent

abbrev pub tag_problems : Rows → List Problem
tag_problems R = problems_of tag (tag_forms R) R.tags

abbrev pub target_problems : Rows → List Problem
target_problems R = problems_of target (target_forms R) R.targets

abbrev pub counted_problems : Rows → List Problem
counted_problems R = problems_of number (number_forms R) R.archives

abbrev pub counter_problems : Rows → List Problem
counter_problems R = broken (counter R.counter) (counter_forms R R.counter)

-- ---- of one subject after another

-- and after those before, of names
abbrev pub name_problems : Rows → NumberMap Archive → List Problem
name_problems R A = premise_problems R A ++ user_form_problems R ++ token_form_problems R ++ organisation_form_problems R ++ team_form_problems R ++ package_form_problems R ++ maintainer_form_problems R

-- of numbers
abbrev pub number_problems : Rows → NumberMap Archive → List Problem
number_problems R A = name_problems R A ++ role_problems R ++ status_problems R ++ level_problems R ++ moment_problems R

-- of versions and tags
abbrev pub release_problems : Rows → NumberMap Archive → List Problem
release_problems R A = number_problems R A ++ version_form_problems R ++ spent_problems R ++ tag_problems R ++ target_problems R

-- of what is counted: all of them
abbrev pub problems : Rows → NumberMap Archive → List Problem
problems R A = release_problems R A ++ counted_problems R ++ counter_problems R
