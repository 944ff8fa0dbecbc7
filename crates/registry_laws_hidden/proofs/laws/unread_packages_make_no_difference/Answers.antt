use Rattle.registry_laws_hidden.proofs.RunFacts.{runs_are_alike}
use Rattle.registry_laws_hidden.proofs.laws.unread_packages_make_no_difference.Goals as goal

pub returns : goal.returns
returns c = runs_are_alike
