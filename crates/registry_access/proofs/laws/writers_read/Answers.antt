use Rattle.registry_access.proofs.LawFacts as facts
use Rattle.registry_access.proofs.laws.writers_read.Goals as goal

pub returns : goal.returns
returns c = facts.writers_read
