use Rattle.registry_laws_hidden.proofs.ListFacts.{lists_have_arrivals}
use Rattle.registry_laws_hidden.proofs.laws.lists_have_arrivals.Goals as goal

pub returns : goal.returns
returns c = lists_have_arrivals
