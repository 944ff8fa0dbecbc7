use Rattle.std.proofs.Common.{arith, length}
use Rattle.std.proofs.lemmas.Bool.{ltb-true}
use Rattle.registry_wire.proofs.KnownFacts.{lacks-body, lacks-head}
use Rattle.registry_wire.proofs.known.is_unfinished.Goals as goal

pub returns-then-head-bytes-clause-unfinished : goal.returns-then-head-bytes-clause-unfinished
returns-then-head-bytes-clause-unfinished c = λ short.
    lacks-head c.args.bytes.now c.in-Head.head (rw c.in-Head.is at c.requires) (omega arith) (ltb-true (length c.args.bytes.now) 16384 short)

pub returns-in-Body-clause-unfinished : goal.returns-in-Body-clause-unfinished
returns-in-Body-clause-unfinished c = λ short.
    lacks-body c.args.bytes.now c.in-Body.count (rw c.in-Body.is at c.requires) (ltb-true (length c.args.bytes.now) c.in-Body.count short)
