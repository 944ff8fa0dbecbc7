use Rattle.std.proofs.Common.{rules}
use Rattle.registry_names.proofs.version.VerOrd.cmp.Goals as goal

pub returns : goal.returns
returns c = search rules
