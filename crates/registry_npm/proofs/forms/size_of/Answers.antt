use Rattle.std.proofs.Common.{◌∙◌}
use Rattle.registry_npm.proofs.FormFacts.{size_length}
use Rattle.registry_npm.proofs.forms.size_of.Goals as goal

pub returns-clause-size : goal.returns-clause-size
returns-clause-size c = c.len.ensures.len ∙ size_length c.args.members.now.entries
