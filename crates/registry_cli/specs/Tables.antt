-- The program's own table of subcommands is that of the definition.
use Rattle.std.specs.Borrow.{Bor}
use Rattle.std.specs.Prelude.{List, map}
use Rattle.clap.specs.Walk.{Rule, Text}
use Rattle.registry_cli.specs.Subcommands.{flag, number, numbers, option, optional, required, with_default}
use Rattle.registry_cli.specs.declared.subcommand.Need.{Need}
use Rattle.registry_cli.specs.declared.subcommand.Need.TheVariants.{Required, Default, Number, NumberIfSaid, WordIfSaid, Flag}
use Rattle.registry_cli.specs.declared.subcommand.Parameter.{Parameter}
use Rattle.registry_cli.specs.declared.subcommand.Subcommand.{Subcommand}

abbrev pub rule : Text → Need → Rule
rule id Required = required id
rule id (Default text) = optional id text.now
rule id (Number name most text) = with_default text.now (number id name.now (numbers 1 most))
rule id (NumberIfSaid name most) = number id name.now (numbers 1 most)
rule id (WordIfSaid name) = option id name.now
rule id (Flag name) = flag id name.now

abbrev pub rule_of_parameter : Parameter → Rule
rule_of_parameter w = rule w.id.now w.need

abbrev pub row_of : Subcommand → Text × List Rule
row_of s = (s.name.now, map rule_of_parameter s.parameters.now)

abbrev pub rows_of_group : Bor (List Subcommand) → List (Text × List Rule)
rows_of_group rows = map row_of rows.now
