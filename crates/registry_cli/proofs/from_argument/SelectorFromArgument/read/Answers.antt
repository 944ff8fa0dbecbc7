use Rattle.registry_cli.proofs.ReadingFacts.{selector_read}
use Rattle.registry_cli.proofs.from_argument.SelectorFromArgument.read.Goals as goal

pub returns : goal.returns
returns c = selector_read c.args.text.now c.parse.result c.parse.ensures.ok c.parse.ensures.refused c.parse.ensures.err
