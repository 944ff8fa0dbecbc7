use Rattle.std.proofs.Common.{rules}
use Rattle.std.proofs.lemmas.Fn.{always_returns_same}
use Rattle.registry_packument.specs.Heads.{time_entry}
use Rattle.registry_packument.proofs.OrderFacts.{is_before, answered}
use Rattle.registry_packument.proofs.head.are_times_in_order.Goals as goal

pub returns : goal.returns
returns c =
    answered time_entry c.args.times.now c.is_sorted_by.result (c.is_sorted_by.ensures.cases (is_before time_entry) (always_returns_same _ _ _ (λ a r f t. search rules)))
