use Rattle.registry_tables.proofs.MemberFacts.{list_means, members_listed}
use Rattle.registry_tables.proofs.InsideFacts.{is_query}
use Rattle.registry_tables.proofs.members.load_members.Goals as goal

pub returns : goal.returns
returns g c = c.list.ensures _ (is_query list_means) (rw (c.params-to_sql.ensures, c.text.ensures.text) (members_listed c.args.organisation.now _ _))
