use Rattle.registry_rules.proofs.LawFacts as facts
use Rattle.registry_rules.proofs.laws.ended_tokens_name_nobody.Goals as goal

pub returns-clause-one : goal.returns-clause-one
returns-clause-one c = facts.tokens_are_ended

pub returns-clause-all : goal.returns-clause-all
returns-clause-all c = facts.all_tokens_are_ended

pub returns-clause-others : goal.returns-clause-others
returns-clause-others c = facts.others_tokens_are_hidden
