use Rattle.registry_npm.proofs.LawFacts.{command-comes_last}
use Rattle.registry_npm.proofs.laws.command_comes_last.Goals as goal

pub returns : goal.returns
returns c = command-comes_last
