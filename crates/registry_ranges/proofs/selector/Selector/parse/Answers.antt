use Rattle.registry_ranges.proofs.SelectorFacts.{conditions-mean}
use Rattle.registry_ranges.proofs.selector.Selector.parse.Goals as goal

pub returns-clause-meaning : goal.returns-clause-meaning
returns-clause-meaning c = conditions-mean _ _ c.in_ok-read.ensures.ok
