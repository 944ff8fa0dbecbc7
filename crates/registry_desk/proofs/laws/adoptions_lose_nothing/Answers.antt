use Rattle.registry_desk.proofs.Words.{state}
use Rattle.registry_desk.proofs.StopFacts.{adoptions_are_opens, releases_are_adopted, stops_are_adopted}
use Rattle.registry_desk.proofs.laws.adoptions_lose_nothing.Goals as goal

pub returns : goal.returns
returns g c = record {
  stopped = stops_are_adopted (state g.S.Store) (state g.T.Store);
  released = releases_are_adopted (state g.S.Store) (state g.T.Store);
  opened = adoptions_are_opens (state g.T.Store);
}
