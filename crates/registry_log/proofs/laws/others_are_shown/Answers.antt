use Rattle.registry_log.proofs.MaskFacts.{others-shown}
use Rattle.registry_log.proofs.laws.others_are_shown.Goals as goal

pub returns : goal.returns
returns c = others-shown
