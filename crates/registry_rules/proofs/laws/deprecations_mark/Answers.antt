use Rattle.registry_rules.proofs.LawFacts as facts
use Rattle.registry_rules.proofs.laws.deprecations_mark.Goals as goal

pub returns : goal.returns
returns c = facts.deprecations_mark
