use Rattle.registry_desk.proofs.StopFacts.{stopped_opens_lose_nothing, stops_in_a_row_lose_nothing}
use Rattle.registry_desk.proofs.laws.stopped_opens_lose_nothing.Goals as goal

pub returns-clause-once : goal.returns-clause-once
returns-clause-once c = stopped_opens_lose_nothing

pub returns-clause-again : goal.returns-clause-again
returns-clause-again c = stops_in_a_row_lose_nothing
