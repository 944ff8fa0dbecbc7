use Rattle.registry_access.proofs.SpellingFacts.{grants_back}
use Rattle.registry_access.proofs.laws.grants_are_read_back.Goals as goal

pub returns : goal.returns
returns c = grants_back
