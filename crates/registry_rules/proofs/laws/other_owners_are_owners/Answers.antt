use Rattle.registry_rules.proofs.OtherFacts as facts
use Rattle.registry_rules.proofs.laws.other_owners_are_owners.Goals as goal

pub returns : goal.returns
returns c = facts.other_owners_are_owners
