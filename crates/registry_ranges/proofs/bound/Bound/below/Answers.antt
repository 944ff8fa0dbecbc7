use Rattle.std.proofs.Common.{refl}
use Rattle.registry_ranges.proofs.bound.Bound.below.Goals as goal

pub returns : goal.returns
returns c = refl
