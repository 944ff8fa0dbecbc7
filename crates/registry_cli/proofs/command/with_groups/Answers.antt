use Rattle.std.proofs.Common.{◌∙◌, ap, sym, slice_index_or, Bor, List, []}
use Rattle.clap.specs.Simple.{App, app_of}
use Rattle.clap.specs.Walk.{Rule, Text}
use Rattle.registry_cli.specs.Subcommands.{with_subcommands}
use Rattle.registry_cli.specs.Tables.{rows_of_group}
use Rattle.registry_cli.specs.declared.subcommand.Subcommand.{Subcommand}
use Rattle.registry_cli.proofs.RowFacts.{groups_more}
use Rattle.registry_cli.proofs.command.with_groups.Goals as goal

pub loop-rows-preserved : goal.loop-rows-preserved
loop-rows-preserved c =
    let i = c.loop-rows.invariant in
    let none : Bor (List Subcommand) = record { ref_ptr = (0, 0); now = [] } in
    let rows : List (Text × List Rule) = rows_of_group (slice_index_or c.args.groups.now c.loop-rows.rows-index none) in
    (c.in_ok-command.ensures.app ∙ ap (λ (a : App). with_subcommands a rows) i.0 ∙ sym (groups_more (app_of c.args.command) c.args.groups.now c.loop-rows.rows-index none c.loop-rows-test.true), c.in_ok-command.ensures.no_globals)
