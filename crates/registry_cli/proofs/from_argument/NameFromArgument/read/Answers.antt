use Rattle.registry_names.specs.declared.refusal.Refusal.TheVariants.{BadName}
use Rattle.registry_cli.specs.Readings.{reads_name}
use Rattle.registry_cli.proofs.ReadingFacts.{read_as}
use Rattle.registry_cli.proofs.from_argument.NameFromArgument.read.Goals as goal

pub returns : goal.returns
returns c = read_as (reads_name c.args.text.now) BadName c.parse.result (λ a h. h) (λ stop h. h) c.parse.ensures.ok c.parse.ensures.err c.parse.ensures.refused
