use Rattle.registry_rules.proofs.LawFacts as facts
use Rattle.registry_rules.proofs.laws.rights_come_and_go.Goals as goal

pub returns-clause-granted : goal.returns-clause-granted
returns-clause-granted c = facts.grants_are_given

pub returns-clause-revoked : goal.returns-clause-revoked
returns-clause-revoked c = facts.grants_are_revoked

pub returns-clause-status : goal.returns-clause-status
returns-clause-status c = facts.statuses_are_set

pub returns-clause-added : goal.returns-clause-added
returns-clause-added c = facts.maintainers_are_added

pub returns-clause-removed : goal.returns-clause-removed
returns-clause-removed c = facts.maintainers_are_removed
