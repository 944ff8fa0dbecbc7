use Rattle.std.proofs.Common.{length, ◌-◌}
use Rattle.registry_wire.specs.Knowledge.{BeginWith}
use Rattle.registry_wire.proofs.known.grown.Given as goal

abbrev pub invariant-loop-head : goal.invariant-loop-head
invariant-loop-head l = BeginWith l.bytes l.head

abbrev pub decreases-loop-head : goal.decreases-loop-head
decreases-loop-head l = length l.bytes - l.head.len
