use Rattle.registry_tables.proofs.InsideFacts.{listed_as_is}
use Rattle.registry_tables.proofs.queries.texts.Goals as goal

pub returns : goal.returns
returns g c all query shows = listed_as_is g.S.Store c.args.tx.now c.list.new.tx _ c.list.result (c.list.ensures all query shows)
