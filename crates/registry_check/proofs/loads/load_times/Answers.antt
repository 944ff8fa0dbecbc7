use Rattle.registry_names.specs.Maps.{entries}
use Rattle.registry_rows.proofs.QuietFacts.{stays_then}
use Rattle.registry_tables.specs.Contents.{contents}
use Rattle.registry_check.specs.Numbers.{numbers_in}
use Rattle.registry_check.specs.Spelled.{role_spelled, spent_spelled}
use Rattle.registry_check.proofs.LoadFacts.{answered, left, next, still}
use Rattle.registry_check.proofs.QueryFacts.{moments_listed, spent_listed}
use Rattle.registry_check.proofs.loads.load_times.Goals as goal

pub returns-in_err-moments-clause-stays : goal.returns-in_err-moments-clause-stays
returns-in_err-moments-clause-stays g c = left g.S.Store role_spelled (λ db. entries (numbers_in (contents db)).moments) moments_listed c.args.tx.now c.load.new.tx c.requires.in_form c.load.ensures.same_reference c.load.ensures.finds

pub returns-in_err-spent-clause-stays : goal.returns-in_err-spent-clause-stays
returns-in_err-spent-clause-stays g c =
    let one = answered g.S.Store role_spelled (λ db. entries (numbers_in (contents db)).moments) moments_listed c.args.tx.now c.load.new.tx _ c.requires.in_form c.load.ensures.same_reference c.in_ok-moments.ensures.finds in
    stays_then g.S.Store c.args.tx.now c.load.new.tx c.load-2.new.tx one.stays (left g.S.Store spent_spelled (λ db. entries (numbers_in (contents db)).spent) spent_listed c.load.new.tx c.load-2.new.tx (still g.S.Store c.args.tx.now c.load.new.tx _ one) c.load-2.ensures.same_reference c.load-2.ensures.finds)

pub returns : goal.returns
returns g c =
    let one = answered g.S.Store role_spelled (λ db. entries (numbers_in (contents db)).moments) moments_listed c.args.tx.now c.load.new.tx _ c.requires.in_form c.load.ensures.same_reference c.in_ok-moments.ensures.finds in
    let two = answered g.S.Store spent_spelled (λ db. entries (numbers_in (contents db)).spent) spent_listed c.load.new.tx c.load-2.new.tx _ (still g.S.Store c.args.tx.now c.load.new.tx _ one) c.load-2.ensures.same_reference c.in_ok-spent.ensures.finds in
    let all = next g.S.Store c.args.tx.now c.load.new.tx c.load-2.new.tx _ _ one two in
    record {
      stays = all.stays;
      loads = λ clean. let r = all.reads clean in (r.0, record { moments = r.1.0; spent = r.1.1 });
    }
