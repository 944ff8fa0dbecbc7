use Rattle.registry_npm.proofs.NeverFacts.{never-not_found}
use Rattle.registry_npm.proofs.laws.never_not_found.Goals as goal

pub returns : goal.returns
returns c = never-not_found
