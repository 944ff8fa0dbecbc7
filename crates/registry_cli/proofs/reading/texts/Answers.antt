use Rattle.std.proofs.Common.{◌∙◌, ap, map}
use Rattle.registry_cli.proofs.RowFacts.{texts_more}
use Rattle.registry_cli.proofs.reading.texts.Goals as goal

pub loop-argument-preserved : goal.loop-argument-preserved
loop-argument-preserved c = ap (map (λ s. s.now)) c.in_ok-push.ensures.items
    ∙ texts_more c.loop-argument.texts.items c.args.arguments.now c.loop-argument.argument-index c.as_str.result c.argument-item.result c.loop-argument-test.true c.loop-argument.invariant (c.as_str.ensures.text ∙ c.argument-item.is)
