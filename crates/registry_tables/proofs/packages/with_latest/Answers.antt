use Rattle.registry_tables.proofs.Words.{◌≡◌, ◌∷◌, ap, arith, length, into_iter_items, package_entry, viewed, ListedPackage}
use Rattle.registry_tables.proofs.InsideFacts.{finds_knows, keeps_and}
use Rattle.registry_tables.proofs.OverviewFacts.{next_listed}
use Rattle.registry_tables.proofs.packages.with_latest.Goals as goal

pub loop-listed-preserved : goal.loop-listed-preserved
loop-listed-preserved g c =
    let at = c.loop-listed in
    let steps : into_iter_items at.listed-iterator ≡ c.in-Some.listed ∷ into_iter_items c.next.new.self = c.in-Some.ensures.steps.0 in
    let all = into_iter_items c.into_iter-listed-iterator.result in
    let next = into_iter_items c.next.new.self in
    record {
      kept = keeps_and g.S.Store c.args.tx.now at.tx c.overview.new.tx _ at.invariant.kept (finds_knows g.S.Store at.tx c.overview.new.tx _ c.in_ok-row.ensures)
          (λ d were is. next_listed (λ (p : ListedPackage). viewed d (package_entry p)) at.rows.items c.in_ok-row.row c.in-Some.listed next (into_iter_items at.listed-iterator) all _ steps is c.in_ok-push.ensures.items were);
      remain =
          let was = at.invariant.remain in
          let gone = c.in-Some.ensures.steps.1 in
          let short = ap length steps in
          omega arith;
    }
