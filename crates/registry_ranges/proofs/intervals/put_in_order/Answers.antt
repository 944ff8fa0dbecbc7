use Rattle.std.proofs.Common.{rules}
use Rattle.std.proofs.lemmas.Fn.{dedup_same}
use Rattle.std.proofs.lemmas.List.Sorted.{answers_always}
use Rattle.registry_ranges.specs.Intervals.{Interval, ends_by, is_below}
use Rattle.registry_ranges.proofs.IntervalFacts.{low_order, ordered-ascends, ordered-covers}
use Rattle.registry_ranges.proofs.intervals.put_in_order.Goals as goal

pub returns-clause-same : goal.returns-clause-same
returns-clause-same c =
    let sorted = c.sort_unstable_by.ensures.sorted (λ (x y : Interval). is_below x.low y.low) low_order (answers_always _ _ _ (λ f a r g k. search rules)) in
    let left = dedup_same _ ends_by _ (λ x y b f' x' y' k. search rules) _ _ c.dedup_by.ensures.filtered in
    ordered-covers _ _ _ c.sort_unstable_by.ensures.permutation sorted left

pub returns-clause-ascend : goal.returns-clause-ascend
returns-clause-ascend c =
    let sorted = c.sort_unstable_by.ensures.sorted (λ (x y : Interval). is_below x.low y.low) low_order (answers_always _ _ _ (λ f a r g k. search rules)) in
    let left = dedup_same _ ends_by _ (λ x y b f' x' y' k. search rules) _ _ c.dedup_by.ensures.filtered in
    ordered-ascends _ _ sorted left
