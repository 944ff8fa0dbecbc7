use Rattle.registry_laws_history.proofs.LastingFacts.{histories_last, runs_last}
use Rattle.registry_laws_history.proofs.laws.published_for_good.Goals as goal

pub returns-clause-histories : goal.returns-clause-histories
returns-clause-histories c = histories_last

pub returns-clause-runs : goal.returns-clause-runs
returns-clause-runs c = runs_last
