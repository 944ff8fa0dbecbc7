use Rattle.registry_tables.proofs.Words.{◌≡◌, ◌∷◌, ap, arith, length, into_iter_items, counted}
use Rattle.registry_tables.proofs.InsideFacts.{finds_knows, keeps_and}
use Rattle.registry_tables.proofs.OverviewFacts.{next_listed}
use Rattle.registry_tables.proofs.users.with_counts.Goals as goal

pub loop-name-preserved : goal.loop-name-preserved
loop-name-preserved g c =
    let at = c.loop-name in
    let steps : into_iter_items at.name-iterator ≡ c.in-Some.name ∷ into_iter_items c.next.new.self = c.in-Some.ensures.steps.0 in
    let all = into_iter_items c.into_iter-name-iterator.result in
    let next = into_iter_items c.next.new.self in
    record {
      kept = keeps_and g.S.Store c.args.tx.now at.tx c.with_count.new.tx _ at.invariant.kept (finds_knows g.S.Store at.tx c.with_count.new.tx _ c.in_ok-user.ensures)
          (λ d were is. next_listed (counted d) at.users.items c.in_ok-user.user c.in-Some.name next (into_iter_items at.name-iterator) all _ steps is c.in_ok-push.ensures.items were);
      remain =
          let was = at.invariant.remain in
          let gone = c.in-Some.ensures.steps.1 in
          let short = ap length steps in
          omega arith;
    }
