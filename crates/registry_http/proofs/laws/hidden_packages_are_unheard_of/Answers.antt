use Rattle.registry_http.proofs.HidingFacts.{hidden-unheard_of}
use Rattle.registry_http.proofs.laws.hidden_packages_are_unheard_of.Goals as goal

pub returns : goal.returns
returns c = hidden-unheard_of
