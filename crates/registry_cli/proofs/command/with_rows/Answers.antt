use Rattle.std.proofs.Common.{◌∙◌, ap₂, refl, sym}
use Rattle.clap.specs.Simple.{app_of, with_subcommand}
use Rattle.registry_cli.proofs.RowFacts.{subcommands_more}
use Rattle.registry_cli.proofs.command.with_rows.Goals as goal

pub loop-row-preserved : goal.loop-row-preserved
loop-row-preserved c = let i = c.loop-row.invariant in
    (c.in_ok-command.ensures.app ∙ ap₂ with_subcommand i.0 refl ∙ sym (subcommands_more (app_of c.args.command) c.args.rows.now c.loop-row.row-index _ c.loop-row-test.true), c.in_ok-command.ensures.no_globals)
