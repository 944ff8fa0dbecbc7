use Rattle.registry_wire.proofs.ReadingFacts.{one-reading}
use Rattle.registry_wire.proofs.laws.bytes_have_one_reading.Goals as goal

pub returns : goal.returns
returns c = one-reading
