use Rattle.registry_tables.proofs.InsideFacts.{is_query}
use Rattle.registry_tables.proofs.TeamMemberFacts.{find_means, team_member_found}
use Rattle.registry_tables.proofs.team_members.is_in_team.Goals as goal

pub returns : goal.returns
returns g c = c.has.ensures _ (is_query find_means) (rw (c.params-to_sql.ensures, c.params-to_sql-2.ensures, c.params-to_sql-3.ensures, c.text.ensures.text, c.text-2.ensures.text, c.text-3.ensures.text) (team_member_found c.args.organisation.now c.args.team.now c.args.user.now _ _))
