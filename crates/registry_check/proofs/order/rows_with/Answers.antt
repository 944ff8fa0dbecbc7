use Rattle.std.proofs.Common.{◌∙◌, ◌≡◌, ◌-◌, ap, arith, drop, length, rules, sym, take, take_all}
use Rattle.std.proofs.lemmas.List.{length-drop}
use Rattle.std.proofs.lemmas.List.Sorted.{IsPartitionPoint-from_clause}
use Rattle.std.specs.Ordering.{is_eq, is_lt}
use Rattle.registry_check.proofs.OrderFacts.{lower_first, rows_that_tie, ties_first}
use Rattle.registry_check.proofs.order.rows_with.Goals as goal

pub returns : goal.returns
returns g c = λ ord answers up.
    let xs = c.args.rows.now in
    let start = c.partition_point-start.result in
    let whole : take (length xs - start) (drop start xs) ≡ drop start xs = take_all (length xs - start) (drop start xs) (omega (arith, length-drop start xs)) in
    let first = IsPartitionPoint-from_clause (λ x. is_lt (ord x)) xs start c.partition_point-start.ensures.partitioned (lower_first ord xs up) (λ a r q k. search rules) in
    let point = rw whole at c.partition_point-count.ensures in
    let second = IsPartitionPoint-from_clause (λ x. is_eq (ord x)) (drop start xs) c.partition_point-count.result point.partitioned (ties_first ord xs up start c.partition_point-start.ensures.bound first) (λ a r q k. search rules) in
    ap (take c.partition_point-count.result) whole ∙ sym (rows_that_tie ord xs up start c.partition_point-start.ensures.bound first c.partition_point-count.result point.bound second)
