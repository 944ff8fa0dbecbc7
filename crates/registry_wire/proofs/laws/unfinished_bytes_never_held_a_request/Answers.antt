use Rattle.registry_wire.proofs.ReadingFacts.{held-no_refusal, held-no_request}
use Rattle.registry_wire.proofs.laws.unfinished_bytes_never_held_a_request.Goals as goal

pub returns : goal.returns
returns c = record { request = held-no_request; refused = held-no_refusal }
