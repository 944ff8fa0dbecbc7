use Rattle.registry_tables.proofs.InsideFacts.{is_query}
use Rattle.registry_tables.proofs.TeamListFacts.{users_listed, users_means}
use Rattle.registry_tables.proofs.team_members.load_team_users.Goals as goal

pub returns : goal.returns
returns g c = c.texts.ensures _ (is_query users_means) (rw (c.params-to_sql.ensures, c.params-to_sql-2.ensures, c.text.ensures.text, c.text-2.ensures.text) (users_listed c.args.organisation.now c.args.team.now _ _))
