use Rattle.registry_log.proofs.MaskFacts.{targets-short}
use Rattle.registry_log.proofs.laws.targets_are_short.Goals as goal

pub returns : goal.returns
returns c = targets-short
