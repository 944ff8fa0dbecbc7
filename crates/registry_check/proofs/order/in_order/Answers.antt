use Rattle.std.proofs.Common.{not, rules}
use Rattle.std.specs.Ordering.{is_lt}
use Rattle.std.proofs.lemmas.List.Sorted.{answers_always}
use Rattle.registry_check.proofs.OrderFacts.{sorted_if}
use Rattle.registry_check.proofs.order.in_order.Goals as goal

pub returns-then-is_sorted_by-clause-sorted : goal.returns-then-is_sorted_by-clause-sorted
returns-then-is_sorted_by-clause-sorted g c =
    let call = rw c.deref.ensures.value at c.is_sorted_by.ensures.cases in
    sorted_if g.R.Keyed.key g.R.Keyed.cmp c.args.rows.items c.is_sorted_by.result
    (call (λ x y. not (is_lt (g.R.Keyed.cmp (g.R.Keyed.key y) (g.R.Keyed.key x)))) (answers_always _ _ _ (λ f a r q k. search rules))) c.if-is_sorted_by.true
