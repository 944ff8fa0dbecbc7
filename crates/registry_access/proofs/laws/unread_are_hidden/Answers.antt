use Rattle.registry_access.proofs.HidingFacts.{hidden}
use Rattle.registry_access.proofs.laws.unread_are_hidden.Goals as goal

pub returns : goal.returns
returns c = hidden
