use Rattle.registry_rules.proofs.LawFacts as facts
use Rattle.registry_rules.proofs.laws.members_come_and_go.Goals as goal

pub returns-clause-created : goal.returns-clause-created
returns-clause-created c = facts.organisations_are_created

pub returns-clause-set : goal.returns-clause-set
returns-clause-set c = facts.roles_are_set

pub returns-clause-removed : goal.returns-clause-removed
returns-clause-removed c = facts.members_are_removed
