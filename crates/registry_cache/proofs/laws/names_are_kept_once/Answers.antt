use Rattle.registry_cache.proofs.OnceFacts.{asked_once, forgotten_once, put_once, room_once}
use Rattle.registry_cache.proofs.laws.names_are_kept_once.Goals as goal

pub returns-clause-asked : goal.returns-clause-asked
returns-clause-asked c = asked_once

pub returns-clause-forgotten : goal.returns-clause-forgotten
returns-clause-forgotten c = forgotten_once

pub returns-clause-put : goal.returns-clause-put
returns-clause-put c = put_once

pub returns-clause-room : goal.returns-clause-room
returns-clause-room c = room_once
