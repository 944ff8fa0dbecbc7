use Rattle.registry_npm.proofs.CallerFacts.{npm-asks_for_caller}
use Rattle.registry_npm.proofs.laws.asks_for_caller.Goals as goal

pub returns : goal.returns
returns c = npm-asks_for_caller
