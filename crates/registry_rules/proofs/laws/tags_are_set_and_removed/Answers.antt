use Rattle.registry_rules.proofs.LawFacts.{removed_tags_are_gone, set_tags_name}
use Rattle.registry_rules.proofs.laws.tags_are_set_and_removed.Goals as goal

pub returns-clause-set : goal.returns-clause-set
returns-clause-set c = set_tags_name

pub returns-clause-removed : goal.returns-clause-removed
returns-clause-removed c = removed_tags_are_gone
