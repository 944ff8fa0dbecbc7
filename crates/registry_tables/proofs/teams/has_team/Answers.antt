use Rattle.registry_tables.proofs.InsideFacts.{is_query}
use Rattle.registry_tables.proofs.TeamFacts.{find_means, team_found}
use Rattle.registry_tables.proofs.teams.has_team.Goals as goal

pub returns : goal.returns
returns g c = c.has.ensures _ (is_query find_means) (rw (c.params-to_sql.ensures, c.params-to_sql-2.ensures, c.text.ensures.text, c.text-2.ensures.text) (team_found c.args.organisation.now c.args.team.now _ _))
