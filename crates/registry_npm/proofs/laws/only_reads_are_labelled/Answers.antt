use Rattle.registry_npm.proofs.LabelFacts.{only_reads_are_labelled}
use Rattle.registry_npm.proofs.laws.only_reads_are_labelled.Goals as goal

pub returns : goal.returns
returns c = only_reads_are_labelled
