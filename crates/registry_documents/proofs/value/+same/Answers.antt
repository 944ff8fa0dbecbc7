use Rattle.std.proofs.Common.{arith}
use Rattle.registry_documents.proofs.LoopFacts.{items_apart}
use Rattle.registry_documents.proofs.value.+same.Goals as goal

pub items_same-returns-then-len : goal.items_same-returns-then-len
items_same-returns-then-len t c =
    items_apart c.args.items.now.items c.args.others.now.items (λ e. c.if-len.true (omega (arith, e, c.len.ensures, c.len-2.ensures, c.args.items.now.ok, c.args.others.now.ok)))
