use Rattle.registry_tables.proofs.InsideFacts.{is_query}
use Rattle.registry_tables.proofs.SpentFacts.{find_means, withdrawal_found}
use Rattle.registry_tables.proofs.spent.has_withdrawal.Goals as goal

pub returns : goal.returns
returns g c = c.has.ensures _ (is_query find_means) (rw (c.params-to_sql.ensures, c.params-to_sql-2.ensures, c.text.ensures.text) (withdrawal_found c.args.name.now c.args.version.now _ _))
