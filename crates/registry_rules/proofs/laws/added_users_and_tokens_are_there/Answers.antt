use Rattle.registry_rules.proofs.LawFacts as facts
use Rattle.registry_rules.proofs.laws.added_users_and_tokens_are_there.Goals as goal

pub returns-clause-users : goal.returns-clause-users
returns-clause-users c = facts.users_are_added

pub returns-clause-tokens : goal.returns-clause-tokens
returns-clause-tokens c = facts.tokens_are_added
