use Rattle.std.proofs.Common.{◌∙◌, ap, option_and_then}
use Rattle.registry_cli.specs.Lines.{moment_in}
use Rattle.registry_cli.proofs.reading.at.Goals as goal

pub returns : goal.returns
returns c = c.moment_of.ensures ∙ ap (option_and_then moment_in) c.given.ensures
