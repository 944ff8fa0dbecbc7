use Rattle.registry_laws_hidden.proofs.AcceptedFacts.{others_are_accepted}
use Rattle.registry_laws_hidden.proofs.NamedFacts.{named_leave_the_rest}
use Rattle.registry_laws_hidden.proofs.OtherFacts.{others_make_the_same}
use Rattle.registry_laws_hidden.proofs.laws.packages_are_left_apart.Goals as goal

pub returns-clause-named : goal.returns-clause-named
returns-clause-named c = named_leave_the_rest

pub returns-clause-others : goal.returns-clause-others
returns-clause-others c = others_make_the_same

pub returns-clause-accepted : goal.returns-clause-accepted
returns-clause-accepted c = others_are_accepted
