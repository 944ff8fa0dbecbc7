use Rattle.std.proofs.Common.{arith}
use Rattle.registry_wire.proofs.PlaceFacts.{target-version}
use Rattle.registry_wire.proofs.place.after_target.Goals as goal

pub returns-in-Ok : goal.returns-in-Ok
returns-in-Ok c = target-version c.args.start c.args.seen.now c.split_at.result.1.now c.requires c.split_at.ensures.back (omega arith) c.in-Ok.ensures.cases.1
