use Rattle.registry_npm.proofs.LawFacts.{faults-end}
use Rattle.registry_npm.proofs.laws.faults_end.Goals as goal

pub returns : goal.returns
returns c = faults-end
