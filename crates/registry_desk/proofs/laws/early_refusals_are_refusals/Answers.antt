use Rattle.registry_desk.proofs.EarlyFacts.{early_refusals_stand}
use Rattle.registry_desk.proofs.laws.early_refusals_are_refusals.Goals as goal

pub returns : goal.returns
returns c = early_refusals_stand
