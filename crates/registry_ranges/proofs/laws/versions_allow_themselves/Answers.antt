use Rattle.registry_ranges.proofs.LawFacts.{itself}
use Rattle.registry_ranges.proofs.laws.versions_allow_themselves.Goals as goal

pub returns : goal.returns
returns c = itself
