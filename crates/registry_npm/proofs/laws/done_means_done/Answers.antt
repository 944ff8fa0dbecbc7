use Rattle.registry_npm.proofs.DeedFacts.{done_means_done}
use Rattle.registry_npm.proofs.laws.done_means_done.Goals as goal

pub returns : goal.returns
returns c = done_means_done
