use Rattle.std.proofs.Common.{rules}
use Rattle.std.specs.Ordering.{is_lt}
use Rattle.std.proofs.lemmas.Fn.{always_returns_same}
use Rattle.std.proofs.lemmas.List.MinMax.{ranks_by}
use Rattle.registry_names.specs.Keys.{pair_cmp}
use Rattle.registry_names.proofs.KeyFacts.{pair_key}
use Rattle.registry_publish.specs.declared.need.Need.{Need}
use Rattle.registry_check.specs.Naming.{key_of}
use Rattle.registry_check.proofs.named.in_order_of_targets.Goals as goal

pub returns-clause-sorted : goal.returns-clause-sorted
returns-clause-sorted c =
    c.sort_unstable_by.ensures.sorted (λ (a b : Need). is_lt (pair_cmp (key_of a) (key_of b))) (ranks_by pair_key.total key_of) (always_returns_same _ _ _ (λ a r q k. search rules))
