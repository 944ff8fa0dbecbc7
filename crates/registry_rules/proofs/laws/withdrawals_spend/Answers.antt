use Rattle.registry_rules.proofs.LawFacts as facts
use Rattle.registry_rules.proofs.laws.withdrawals_spend.Goals as goal

pub returns-clause-versions : goal.returns-clause-versions
returns-clause-versions c = facts.withdrawals_spend

pub returns-clause-tags : goal.returns-clause-tags
returns-clause-tags c = facts.withdrawals_free_tags
