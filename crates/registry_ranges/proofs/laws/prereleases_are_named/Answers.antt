use Rattle.registry_ranges.proofs.CombinationFacts.{named}
use Rattle.registry_ranges.proofs.laws.prereleases_are_named.Goals as goal

pub returns : goal.returns
returns c = named
