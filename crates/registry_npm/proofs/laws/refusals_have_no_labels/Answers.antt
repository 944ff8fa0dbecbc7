use Rattle.registry_npm.proofs.LabelFacts.{refusals_have_no_labels}
use Rattle.registry_npm.proofs.laws.refusals_have_no_labels.Goals as goal

pub returns : goal.returns
returns c = refusals_have_no_labels
