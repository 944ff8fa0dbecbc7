use Rattle.registry_access.proofs.SpellingFacts.{roles_back}
use Rattle.registry_access.proofs.laws.roles_are_read_back.Goals as goal

pub returns : goal.returns
returns c = roles_back
