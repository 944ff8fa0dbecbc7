use Rattle.registry_laws_hidden.proofs.UntouchedFacts.{untouched_leave_the_rest}
use Rattle.registry_laws_hidden.proofs.laws.histories_without_a_package_leave_the_rest.Goals as goal

pub returns : goal.returns
returns c = untouched_leave_the_rest
