use Rattle.std.proofs.Common.{rules}
use Rattle.std.proofs.lemmas.Fn.{always_returns_same}
use Rattle.registry_packument.specs.Lists.{tag_texts}
use Rattle.registry_packument.proofs.OrderFacts.{is_before, answered}
use Rattle.registry_packument.proofs.head.are_in_order.Goals as goal

pub returns : goal.returns
returns c =
    answered tag_texts c.args.tags.now c.is_sorted_by.result (c.is_sorted_by.ensures.cases (is_before tag_texts) (always_returns_same _ _ _ (λ a r f t. search rules)))
