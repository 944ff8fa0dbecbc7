use Rattle.registry_cache.proofs.PrefixFacts.{is_longest, all_stay}
use Rattle.registry_cache.proofs.laws.the_least_lately_asked_go.Goals as goal

pub returns-clause-longest : goal.returns-clause-longest
returns-clause-longest c = is_longest

pub returns-clause-all : goal.returns-clause-all
returns-clause-all c = all_stay
