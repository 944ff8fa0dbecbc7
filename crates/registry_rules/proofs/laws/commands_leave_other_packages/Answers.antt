use Rattle.registry_rules.proofs.LawFacts as facts
use Rattle.registry_rules.proofs.laws.commands_leave_other_packages.Goals as goal

pub returns-clause-queries : goal.returns-clause-queries
returns-clause-queries c = facts.queries_change_nothing

pub returns-clause-packages : goal.returns-clause-packages
returns-clause-packages c = facts.commands_leave_other_packages
