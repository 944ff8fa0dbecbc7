use Rattle.registry_laws_hidden.proofs.ArrivalFacts.{strangers_see_the_same}
use Rattle.registry_laws_hidden.proofs.laws.unread_packages_do_not_interfere.Goals as goal

pub returns : goal.returns
returns c = strangers_see_the_same
