use Rattle.registry_npm.proofs.ChangeFacts.{documents_change_one_thing}
use Rattle.registry_npm.proofs.laws.documents_change_one_thing.Goals as goal

pub returns : goal.returns
returns c = documents_change_one_thing
