use Rattle.registry_wire.proofs.ReadingFacts.{takes-of_all}
use Rattle.registry_wire.proofs.laws.what_is_left_is_read.Goals as goal

pub returns : goal.returns
returns c = takes-of_all
