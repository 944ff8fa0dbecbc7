use Rattle.registry_laws_history.proofs.ListedFacts as facts
use Rattle.registry_laws_history.proofs.laws.lists_have_what_is_read.Goals as goal

pub returns-clause-organisation : goal.returns-clause-organisation
returns-clause-organisation c = facts.org_packages_are_read

pub returns-clause-own : goal.returns-clause-own
returns-clause-own c = facts.own_packages_are_read
