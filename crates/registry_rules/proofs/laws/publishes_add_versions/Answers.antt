use Rattle.registry_rules.proofs.LawFacts.{publishes_add_versions, publishes_give_first_rights, publishes_set_statuses, publishes_set_tags}
use Rattle.registry_rules.proofs.laws.publishes_add_versions.Goals as goal

pub returns-clause-versions : goal.returns-clause-versions
returns-clause-versions c = publishes_add_versions

pub returns-clause-tags : goal.returns-clause-tags
returns-clause-tags c = publishes_set_tags

pub returns-clause-statuses : goal.returns-clause-statuses
returns-clause-statuses c = publishes_set_statuses

pub returns-clause-rights : goal.returns-clause-rights
returns-clause-rights c = publishes_give_first_rights
