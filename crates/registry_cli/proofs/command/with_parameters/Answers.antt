use Rattle.std.proofs.Common.{◌∙◌, ap₂, sym}
use Rattle.clap.specs.Simple.{app_of, with_rule}
use Rattle.registry_cli.proofs.RowFacts.{rules_more}
use Rattle.registry_cli.proofs.command.with_parameters.Goals as goal

pub loop-parameter-preserved : goal.loop-parameter-preserved
loop-parameter-preserved c = let i = c.loop-parameter.invariant in
    (c.in_ok-command.ensures.app ∙ ap₂ with_rule i.0 c.argument.ensures.rule ∙ sym (rules_more (app_of c.args.command) c.args.parameters.now c.loop-parameter.parameter-index _ c.loop-parameter-test.true), c.in_ok-command.ensures.no_globals)
