use Rattle.registry_laws_history.proofs.RunFacts.{history_says}
use Rattle.registry_laws_history.proofs.laws.legal_histories_say.Goals as goal

pub returns : goal.returns
returns c = history_says
