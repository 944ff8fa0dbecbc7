use Rattle.registry_desk.proofs.Words.{state}
use Rattle.registry_desk.proofs.StopFacts.{stops_lose_nothing}
use Rattle.registry_desk.proofs.laws.stops_lose_nothing.Goals as goal

pub returns : goal.returns
returns g c = stops_lose_nothing (state g.S.Store) (state g.T.Store)
