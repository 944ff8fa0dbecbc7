use Rattle.registry_names.specs.declared.refusal.Refusal.TheVariants.{BadBody}
use Rattle.registry_cli.specs.Readings.{reads_message}
use Rattle.registry_cli.proofs.ReadingFacts.{read_as}
use Rattle.registry_cli.proofs.from_argument.MessageFromArgument.read.Goals as goal

pub returns : goal.returns
returns c = read_as (reads_message c.args.text.now) BadBody c.parse.result (λ a h. h) (λ stop h. h) c.parse.ensures.ok c.parse.ensures.err c.parse.ensures.refused
