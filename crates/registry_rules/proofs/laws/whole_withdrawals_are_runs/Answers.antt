use Rattle.registry_rules.proofs.WholeRuns as facts
use Rattle.registry_rules.proofs.laws.whole_withdrawals_are_runs.Goals as goal

pub returns-clause-live : goal.returns-clause-live
returns-clause-live c = facts.live_versions_are_the_live

pub returns-clause-runs : goal.returns-clause-runs
returns-clause-runs c = facts.withdrawals_of_all_are_runs

pub returns-clause-refused : goal.returns-clause-refused
returns-clause-refused c = facts.withdrawals_of_all_are_refused_as_one

pub returns-clause-spent : goal.returns-clause-spent
returns-clause-spent c = facts.withdrawals_of_all_spend
