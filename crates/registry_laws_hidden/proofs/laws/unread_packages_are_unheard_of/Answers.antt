use Rattle.registry_laws_hidden.proofs.LeftFacts.{rests_are_alike}
use Rattle.registry_laws_hidden.proofs.UnheardFacts.{replies_are_alike}
use Rattle.registry_laws_hidden.proofs.laws.unread_packages_are_unheard_of.Goals as goal

pub returns-clause-replies : goal.returns-clause-replies
returns-clause-replies c = replies_are_alike

pub returns-clause-rests : goal.returns-clause-rests
returns-clause-rests c = rests_are_alike
