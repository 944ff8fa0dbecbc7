use Rattle.std.proofs.Common.{◌≡◌, false, map, take}
use Rattle.clap.specs.Simple.{app_of}
use Rattle.clap.specs.declared.builder.command.Command.TheViews.{out-Command}
use Rattle.registry_cli.specs.Subcommands.{with_rules}
use Rattle.registry_cli.specs.Tables.{rule_of_parameter}
use Rattle.registry_cli.proofs.command.with_parameters.Given as goal

abbrev pub invariant-loop-parameter : goal.invariant-loop-parameter
invariant-loop-parameter l = (app_of l.command ≡ with_rules (app_of l.fn.command) (map rule_of_parameter (take l.parameter-index l.parameters))) × ((out-Command l.command).has_globals ≡ false)
