use Rattle.registry_tables.proofs.InsideFacts.{is_query, listed_as_is}
use Rattle.registry_tables.proofs.SpentFacts.{last_means, publications_found}
use Rattle.registry_tables.proofs.spent.load_spent_publications.Goals as goal

pub returns : goal.returns
returns g c = listed_as_is g.S.Store c.args.tx.now c.list.new.tx _ c.list.result (c.list.ensures _ (is_query last_means) (rw (c.params-to_sql.ensures, c.text.ensures.text) (publications_found c.args.name.now _ _)))
