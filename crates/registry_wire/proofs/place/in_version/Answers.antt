use Rattle.std.proofs.Common.{arith}
use Rattle.registry_wire.proofs.PlaceFacts.{version-one, version-zero}
use Rattle.registry_wire.proofs.place.in_version.Goals as goal

pub returns-in-48 : goal.returns-in-48
returns-in-48 c = version-zero c.args.count c.args.byte (omega arith) c.in-48.is

pub returns-in-49 : goal.returns-in-49
returns-in-49 c = version-one c.args.count c.args.byte (omega arith) c.in-49.is
