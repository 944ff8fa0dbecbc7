use Rattle.std.proofs.Common.{arith, sym}
use Rattle.std.proofs.lemmas.List.{take_all}
use Rattle.registry_wire.proofs.head.prefix_of.Goals as goal

pub returns-clause-value : goal.returns-clause-value
returns-clause-value c = sym (take_all 16384 c.args.bytes.now (omega arith))
