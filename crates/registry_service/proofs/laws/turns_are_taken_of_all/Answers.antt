use Rattle.registry_service.proofs.LawFacts.{taken-of_all}
use Rattle.registry_service.specs.Turns.{profile, spoken}
use Rattle.registry_service.proofs.laws.turns_are_taken_of_all.Goals as goal

pub returns : goal.returns
returns g c = taken-of_all (spoken profile g.D.Service.answers)
