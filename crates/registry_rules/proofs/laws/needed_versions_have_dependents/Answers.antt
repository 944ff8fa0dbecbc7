use Rattle.registry_rules.proofs.DependentFacts.{needed_have_dependents}
use Rattle.registry_rules.proofs.laws.needed_versions_have_dependents.Goals as goal

pub returns : goal.returns
returns c = needed_have_dependents
