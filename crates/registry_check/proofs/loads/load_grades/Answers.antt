use Rattle.registry_names.specs.Maps.{entries}
use Rattle.registry_rows.proofs.QuietFacts.{stays_then}
use Rattle.registry_tables.specs.Contents.{contents}
use Rattle.registry_check.specs.Numbers.{numbers_in}
use Rattle.registry_check.specs.Spelled.{level_spelled, role_spelled, status_spelled}
use Rattle.registry_check.proofs.LoadFacts.{answered, left, next, still}
use Rattle.registry_check.proofs.QueryFacts.{roles_listed, statuses_listed, levels_listed}
use Rattle.registry_check.proofs.loads.load_grades.Goals as goal

pub returns-in_err-roles-clause-stays : goal.returns-in_err-roles-clause-stays
returns-in_err-roles-clause-stays g c = left g.S.Store role_spelled (λ db. entries (numbers_in (contents db)).roles) roles_listed c.args.tx.now c.load.new.tx c.requires.in_form c.load.ensures.same_reference c.load.ensures.finds

pub returns-in_err-statuses-clause-stays : goal.returns-in_err-statuses-clause-stays
returns-in_err-statuses-clause-stays g c =
    let one = answered g.S.Store role_spelled (λ db. entries (numbers_in (contents db)).roles) roles_listed c.args.tx.now c.load.new.tx _ c.requires.in_form c.load.ensures.same_reference c.in_ok-roles.ensures.finds in
    stays_then g.S.Store c.args.tx.now c.load.new.tx c.load-2.new.tx one.stays (left g.S.Store status_spelled (λ db. entries (numbers_in (contents db)).statuses) statuses_listed c.load.new.tx c.load-2.new.tx (still g.S.Store c.args.tx.now c.load.new.tx _ one) c.load-2.ensures.same_reference c.load-2.ensures.finds)

pub returns-in_err-levels-clause-stays : goal.returns-in_err-levels-clause-stays
returns-in_err-levels-clause-stays g c =
    let one = answered g.S.Store role_spelled (λ db. entries (numbers_in (contents db)).roles) roles_listed c.args.tx.now c.load.new.tx _ c.requires.in_form c.load.ensures.same_reference c.in_ok-roles.ensures.finds in
    let two = answered g.S.Store status_spelled (λ db. entries (numbers_in (contents db)).statuses) statuses_listed c.load.new.tx c.load-2.new.tx _ (still g.S.Store c.args.tx.now c.load.new.tx _ one) c.load-2.ensures.same_reference c.in_ok-statuses.ensures.finds in
    stays_then g.S.Store c.args.tx.now c.load-2.new.tx c.load-3.new.tx (next g.S.Store c.args.tx.now c.load.new.tx c.load-2.new.tx _ _ one two).stays (left g.S.Store level_spelled (λ db. entries (numbers_in (contents db)).levels) levels_listed c.load-2.new.tx c.load-3.new.tx (still g.S.Store c.load.new.tx c.load-2.new.tx _ two) c.load-3.ensures.same_reference c.load-3.ensures.finds)

pub returns : goal.returns
returns g c =
    let one = answered g.S.Store role_spelled (λ db. entries (numbers_in (contents db)).roles) roles_listed c.args.tx.now c.load.new.tx _ c.requires.in_form c.load.ensures.same_reference c.in_ok-roles.ensures.finds in
    let two = answered g.S.Store status_spelled (λ db. entries (numbers_in (contents db)).statuses) statuses_listed c.load.new.tx c.load-2.new.tx _ (still g.S.Store c.args.tx.now c.load.new.tx _ one) c.load-2.ensures.same_reference c.in_ok-statuses.ensures.finds in
    let three = answered g.S.Store level_spelled (λ db. entries (numbers_in (contents db)).levels) levels_listed c.load-2.new.tx c.load-3.new.tx _ (still g.S.Store c.load.new.tx c.load-2.new.tx _ two) c.load-3.ensures.same_reference c.in_ok-levels.ensures.finds in
    let all = next g.S.Store c.args.tx.now c.load-2.new.tx c.load-3.new.tx _ _ (next g.S.Store c.args.tx.now c.load.new.tx c.load-2.new.tx _ _ one two) three in
    record {
      stays = all.stays;
      loads = λ clean. let r = all.reads clean in (r.0, record { roles = r.1.0.0; statuses = r.1.0.1; levels = r.1.1 });
    }
