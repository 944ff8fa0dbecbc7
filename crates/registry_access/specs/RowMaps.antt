-- Rows read as a state, in which nothing is said of users and tokens.
use Rattle.std.specs.Prelude.{map}
use Rattle.registry_names.specs.Texts.{Text, text_cmp}
use Rattle.registry_names.specs.Keys.{Pair, Triple, pair_cmp, triple_cmp}
use Rattle.registry_names.specs.Maps.{empty, rows}
use Rattle.registry_names.specs.declared.status.Status.{Status}
use Rattle.registry_access.specs.Access.{Access}
use Rattle.registry_access.specs.declared.role.Role.{Role}
use Rattle.registry_access.specs.declared.grant.Grant.{Grant}
use Rattle.registry_access.specs.declared.rows.AccessRows.{AccessRows}
use Rattle.registry_access.specs.declared.rows.GrantRow.{GrantRow}
use Rattle.registry_access.specs.declared.rows.MaintainerRow.{MaintainerRow}
use Rattle.registry_access.specs.declared.rows.MemberRow.{MemberRow}
use Rattle.registry_access.specs.declared.rows.PackageRow.{PackageRow}
use Rattle.registry_access.specs.declared.rows.TeamMemberRow.{TeamMemberRow}
use Rattle.registry_access.specs.declared.rows.TeamRow.{TeamRow}

-- ---- the key and the value of a row

abbrev pub organisation_entry : Text → Text × Unit {0}
organisation_entry o = (o, tt)

abbrev pub member_entry : MemberRow → Pair × Role
member_entry r = ((r.organisation, r.user), r.role)

abbrev pub team_entry : TeamRow → Pair × Unit {0}
team_entry r = ((r.organisation, r.team), tt)

abbrev pub team_member_entry : TeamMemberRow → Triple × Unit {0}
team_member_entry r = ((r.organisation, (r.team, r.user)), tt)

abbrev pub grant_entry : GrantRow → Triple × Grant
grant_entry r = ((r.organisation, (r.team, r.package)), r.grant)

abbrev pub package_entry : PackageRow → Text × Status
package_entry r = (r.package, r.status)

abbrev pub maintainer_entry : MaintainerRow → Pair × Unit {0}
maintainer_entry r = ((r.package, r.user), tt)

-- where a key occurs twice, its first row counts
abbrev pub state_of : AccessRows → Access
state_of r = record {
  users = empty;
  tokens = empty;
  organisations = rows text_cmp (map organisation_entry r.organisations.items);
  roles = rows pair_cmp (map member_entry r.members.items);
  teams = rows pair_cmp (map team_entry r.teams.items);
  team_members = rows triple_cmp (map team_member_entry r.team_members.items);
  grants = rows triple_cmp (map grant_entry r.grants.items);
  statuses = rows text_cmp (map package_entry r.packages.items);
  maintainers = rows pair_cmp (map maintainer_entry r.maintainers.items);
}
