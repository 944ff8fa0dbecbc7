use Rattle.registry_npm.proofs.ChangeFacts.{packuments_are_of_writers}
use Rattle.registry_npm.proofs.laws.packuments_are_of_writers.Goals as goal

pub returns : goal.returns
returns c = packuments_are_of_writers
