use Rattle.registry_laws_hidden.proofs.ListFacts.{lists_are_answered_alike}
use Rattle.registry_laws_hidden.proofs.laws.strangers_are_answered_alike.Goals as goal

pub returns : goal.returns
returns c = lists_are_answered_alike
