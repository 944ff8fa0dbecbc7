use Rattle.registry_npm.proofs.LabelFacts.{shared_is_public}
use Rattle.registry_npm.proofs.laws.what_is_shared_is_public.Goals as goal

pub returns : goal.returns
returns c = shared_is_public
