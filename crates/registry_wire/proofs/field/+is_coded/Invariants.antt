use Rattle.std.proofs.Common.{length}
use Rattle.registry_wire.proofs.field.+is_coded.Given as goal

abbrev pub decreases-is_coded : goal.decreases-is_coded
decreases-is_coded l = length l.headers.now
