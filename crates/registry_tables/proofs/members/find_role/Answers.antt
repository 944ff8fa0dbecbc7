use Rattle.registry_tables.proofs.MemberFacts.{find_means, role_found}
use Rattle.registry_tables.proofs.InsideFacts.{found_as_is, is_query}
use Rattle.registry_tables.proofs.members.find_role.Goals as goal

pub returns : goal.returns
returns g c = found_as_is g.S.Store c.args.tx.now c.find.new.tx c.find.result (c.find.ensures _ (is_query find_means) (rw (c.params-to_sql.ensures, c.params-to_sql-2.ensures, c.text.ensures.text) (role_found c.args.organisation.now c.args.user.now _ _)))
