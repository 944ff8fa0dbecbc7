use Rattle.std.proofs.Common.{◌≡◌, length}
use Rattle.registry_npm.specs.Bodies.{begins_object}
use Rattle.registry_npm.proofs.body.begins_object.Given as goal

abbrev pub invariant-loop-body : goal.invariant-loop-body
invariant-loop-body l = begins_object l.body ≡ begins_object l.fn.body

abbrev pub decreases-loop-body : goal.decreases-loop-body
decreases-loop-body l = length l.body
