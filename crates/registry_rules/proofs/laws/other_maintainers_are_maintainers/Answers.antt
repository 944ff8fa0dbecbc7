use Rattle.registry_rules.proofs.OtherFacts as facts
use Rattle.registry_rules.proofs.laws.other_maintainers_are_maintainers.Goals as goal

pub returns : goal.returns
returns c = facts.other_maintainers_are_maintainers
