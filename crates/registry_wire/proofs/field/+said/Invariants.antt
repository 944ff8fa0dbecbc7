use Rattle.std.proofs.Common.{length}
use Rattle.registry_wire.proofs.field.+said.Given as goal

abbrev pub decreases-said : goal.decreases-said
decreases-said l = length l.headers.now
