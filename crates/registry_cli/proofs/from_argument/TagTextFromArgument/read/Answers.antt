use Rattle.registry_cli.proofs.ReadingFacts.{tag_read}
use Rattle.registry_cli.proofs.from_argument.TagTextFromArgument.read.Goals as goal

pub returns : goal.returns
returns c = tag_read c.args.text.now c.tag.result c.tag.ensures.ok c.tag.ensures.range.0 c.tag.ensures.bad.0 c.tag.ensures.fault c.tag.ensures.err
