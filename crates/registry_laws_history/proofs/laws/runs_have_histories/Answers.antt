use Rattle.registry_laws_history.proofs.RunFacts.{adds_accepted_publish, headline_of, run_says}
use Rattle.registry_laws_history.proofs.laws.runs_have_histories.Goals as goal

pub returns-clause-says : goal.returns-clause-says
returns-clause-says c = run_says

pub returns-clause-headline : goal.returns-clause-headline
returns-clause-headline c = headline_of

pub returns-clause-adds : goal.returns-clause-adds
returns-clause-adds c = adds_accepted_publish
