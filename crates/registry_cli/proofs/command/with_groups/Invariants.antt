use Rattle.std.proofs.Common.{◌≡◌, false, map, take}
use Rattle.clap.specs.Simple.{app_of}
use Rattle.clap.specs.declared.builder.command.Command.TheViews.{out-Command}
use Rattle.registry_cli.specs.Subcommands.{with_groups}
use Rattle.registry_cli.specs.Tables.{rows_of_group}
use Rattle.registry_cli.proofs.command.with_groups.Given as goal

abbrev pub invariant-loop-rows : goal.invariant-loop-rows
invariant-loop-rows l = (app_of l.command ≡ with_groups (app_of l.fn.command) (map rows_of_group (take l.rows-index l.groups))) × ((out-Command l.command).has_globals ≡ false)
