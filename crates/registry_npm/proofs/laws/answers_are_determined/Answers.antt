use Rattle.registry_npm.proofs.DeterminedFacts.{npm_is_determined}
use Rattle.registry_npm.proofs.laws.answers_are_determined.Goals as goal

pub returns : goal.returns
returns c = npm_is_determined
