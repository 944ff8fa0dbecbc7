use Rattle.registry_tables.proofs.GrantFacts.{grants_listed, list_means}
use Rattle.registry_tables.proofs.InsideFacts.{is_query}
use Rattle.registry_tables.proofs.grants.load_team_grants.Goals as goal

pub returns : goal.returns
returns g c = c.list.ensures _ (is_query list_means) (rw (c.params-to_sql.ensures, c.params-to_sql-2.ensures, c.text.ensures.text, c.text-2.ensures.text) (grants_listed c.args.organisation.now c.args.team.now _ _))
