use Rattle.registry_npm.proofs.LabelFacts.{abbreviated_are_shown}
use Rattle.registry_npm.proofs.laws.abbreviated_are_shown.Goals as goal

pub returns : goal.returns
returns c = abbreviated_are_shown
