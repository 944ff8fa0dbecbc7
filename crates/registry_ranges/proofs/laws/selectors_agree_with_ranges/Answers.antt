use Rattle.registry_ranges.proofs.CombinationFacts.{selectors-agree}
use Rattle.registry_ranges.proofs.laws.selectors_agree_with_ranges.Goals as goal

pub returns : goal.returns
returns c = selectors-agree
