use Rattle.registry_npm.proofs.FormFacts.{name_first, name_last, name_step}
use Rattle.registry_npm.proofs.forms.names_of.Goals as goal

pub loop-item-init : goal.loop-item-init
loop-item-init c = rw c.new-names.ensures.items (name_first c.args.items.now)

pub loop-item-preserved : goal.loop-item-preserved
loop-item-preserved c =
    let text = rw c.in-Some.is at c.as_str.ensures in
    rw (c.in_ok-push.ensures.items, c.in_ok-name.ensures) (name_step c.loop-item.names.items _ c.args.items.now c.loop-item.item-index c.item-item.result c.in-Some.text.now c.loop-item-test.true c.item-item.is c.loop-item.invariant text)

pub returns : goal.returns
returns c = name_last c.loop-item.names.items _ c.args.items.now c.loop-item.item-index c.loop-item-test.false c.loop-item.invariant
