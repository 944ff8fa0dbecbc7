use Rattle.registry_tables.proofs.NeedFacts.{needs_next}
use Rattle.registry_tables.proofs.ThenFacts.{makes_more}
use Rattle.registry_tables.proofs.needs.put_needs.Goals as goal

pub loop-need-preserved : goal.loop-need-preserved
loop-need-preserved g c = makes_more g.S.Store c.args.tx.now c.loop-need.tx c.put_need.new.tx _ c.loop-need.invariant c.in_ok-put_need.ensures
    (needs_next c.args.name.now c.args.version.now c.args.needs.now c.loop-need.need-index c.need-item.result c.loop-need-test.true c.need-item.is)
