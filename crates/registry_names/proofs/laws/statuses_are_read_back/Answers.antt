use Rattle.registry_names.proofs.SpellingFacts.{statuses_back}
use Rattle.registry_names.proofs.laws.statuses_are_read_back.Goals as goal

pub returns : goal.returns
returns c = statuses_back
