use Rattle.registry_tables.proofs.InsideFacts.{query_finds}
use Rattle.registry_tables.proofs.queries.query.Goals as goal

pub returns : goal.returns
returns g c query = query_finds g.S.Store _ _ c.args.tx.now c.read.new.tx _ c.read.result query c.read.ensures.same_reference c.read.ensures.shown c.read.ensures.failed
