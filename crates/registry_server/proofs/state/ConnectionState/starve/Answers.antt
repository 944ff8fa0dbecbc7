use Rattle.registry_service.specs.Turns.{TurnsAway, no_memory}
use Rattle.registry_server.proofs.state.ConnectionState.starve.Goals as goal

pub returns-clause-starves : goal.returns-clause-starves
returns-clause-starves g c =
    let away : TurnsAway no_memory c.noted.result = rw c.noted.ensures.turned c.turn_starved.ensures in
    record { turned = c.noted.result; away = away; state = c.put-answered.ensures.state }
