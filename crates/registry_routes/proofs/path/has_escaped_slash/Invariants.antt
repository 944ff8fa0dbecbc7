use Rattle.std.proofs.Common.{◌≡◌, length}
use Rattle.registry_routes.specs.Paths.{has_escaped_slash}
use Rattle.registry_routes.proofs.path.has_escaped_slash.Given as goal

abbrev pub invariant-loop-text : goal.invariant-loop-text
invariant-loop-text l = has_escaped_slash l.text ≡ has_escaped_slash l.fn.text

abbrev pub decreases-loop-text : goal.decreases-loop-text
decreases-loop-text l = length l.text
