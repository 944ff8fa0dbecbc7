use Rattle.std.proofs.Common.{arith}
use Rattle.registry_names.proofs.streams.from_read.FromReadByteIn.read.Goals as goal

pub returns-in-Err-clause-counted : goal.returns-in-Err-clause-counted
returns-in-Err-clause-counted g c = omega arith
