use Rattle.registry_npm.proofs.LawFacts.{others-stay}
use Rattle.registry_npm.proofs.laws.others_stay.Goals as goal

pub returns : goal.returns
returns c = others-stay
