use Rattle.std.proofs.Common.{◌∙◌, Some, arith, ap, sym}
use Rattle.registry_npm.proofs.documents.publication.Goals as goal

pub of-requires : goal.of-requires
of-requires c = (c.args.body.now, (omega arith, c.requires.0, c.requires.1 ∙ ap Some (sym c.value.ensures)))

pub returns : goal.returns
returns c = c.of.ensures c.args.body.now (omega arith, c.requires.0, c.requires.1 ∙ ap Some (sym c.value.ensures))
