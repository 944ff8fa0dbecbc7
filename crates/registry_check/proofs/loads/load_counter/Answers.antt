use Rattle.std.proofs.Common.{◌∙◌, ap, map}
use Rattle.registry_tables.specs.Effects.{shown}
use Rattle.registry_tables.specs.Schema as table
use Rattle.registry_check.specs.Counter.{count_in_row, count_spelled, counter_among}
use Rattle.registry_check.proofs.CounterFacts.{counter_told, counts_listed}
use Rattle.registry_check.proofs.LoadFacts.{answered, left}
use Rattle.registry_check.proofs.NumberedFacts.{numbered}
use Rattle.registry_check.proofs.loads.load_counter.Goals as goal

pub returns-in_err-rows-clause-stays : goal.returns-in_err-rows-clause-stays
returns-in_err-rows-clause-stays g c = left g.S.Store count_spelled (λ db. map (numbered count_in_row) (db table.counters.tree)) counts_listed c.args.tx.now c.load.new.tx c.requires.in_form c.load.ensures.same_reference c.load.ensures.finds

pub returns : goal.returns
returns g c =
    let one = answered g.S.Store count_spelled (λ db. map (numbered count_in_row) (db table.counters.tree)) counts_listed c.args.tx.now c.load.new.tx _ c.requires.in_form c.load.ensures.same_reference c.in_ok-rows.ensures.finds in
    record {
      stays = one.stays;
      loads = λ clean. let r = one.reads clean in (r.0, (rw c.deref.ensures.value at c.counter_of.ensures) ∙ ap counter_among r.1 ∙ counter_told (shown g.S.Store c.args.tx.now));
    }
