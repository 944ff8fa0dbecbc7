use Rattle.registry_tables.proofs.InsideFacts.{is_query}
use Rattle.registry_tables.proofs.TeamFacts.{list_means, teams_listed}
use Rattle.registry_tables.proofs.teams.load_teams.Goals as goal

pub returns : goal.returns
returns g c = c.texts.ensures _ (is_query list_means) (rw (c.params-to_sql.ensures, c.text.ensures.text) (teams_listed c.args.organisation.now _ _))
