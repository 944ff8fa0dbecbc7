use Rattle.std.proofs.Common.{◌≡◌, false, map, take}
use Rattle.clap.specs.Simple.{app_of}
use Rattle.clap.specs.declared.builder.command.Command.TheViews.{out-Command}
use Rattle.registry_cli.specs.Subcommands.{with_subcommands}
use Rattle.registry_cli.specs.Tables.{row_of}
use Rattle.registry_cli.proofs.command.with_rows.Given as goal

abbrev pub invariant-loop-row : goal.invariant-loop-row
invariant-loop-row l = (app_of l.command ≡ with_subcommands (app_of l.fn.command) (map row_of (take l.row-index l.rows))) × ((out-Command l.command).has_globals ≡ false)
