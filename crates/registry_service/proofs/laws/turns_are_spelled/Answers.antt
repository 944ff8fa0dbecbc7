use Rattle.registry_service.proofs.LawFacts.{turns-spell}
use Rattle.registry_service.proofs.laws.turns_are_spelled.Goals as goal

pub returns : goal.returns
returns c = turns-spell
