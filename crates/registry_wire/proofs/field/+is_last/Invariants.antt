use Rattle.std.proofs.Common.{length}
use Rattle.registry_wire.proofs.field.+is_last.Given as goal

abbrev pub decreases-is_last : goal.decreases-is_last
decreases-is_last l = length l.headers.now
