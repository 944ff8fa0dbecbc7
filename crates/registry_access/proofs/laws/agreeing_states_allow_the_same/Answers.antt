use Rattle.registry_access.proofs.AgreementFacts.{allowed_alike}
use Rattle.registry_access.proofs.laws.agreeing_states_allow_the_same.Goals as goal

pub returns : goal.returns
returns c = allowed_alike
