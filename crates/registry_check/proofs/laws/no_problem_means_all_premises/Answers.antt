use Rattle.registry_check.proofs.RightFacts.{none_means_right}
use Rattle.registry_check.proofs.laws.no_problem_means_all_premises.Goals as goal

pub returns : goal.returns
returns c = none_means_right
