use Rattle.registry_access.proofs.LawFacts.{greatest_counts}
use Rattle.registry_access.proofs.laws.greatest_grant_counts.Goals as goal

pub returns : goal.returns
returns c = greatest_counts
