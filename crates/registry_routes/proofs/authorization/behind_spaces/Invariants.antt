use Rattle.std.proofs.Common.{◌≡◌, length}
use Rattle.registry_routes.specs.Authorization.{behind_spaces}
use Rattle.registry_routes.proofs.authorization.behind_spaces.Given as goal

abbrev pub invariant-loop-text : goal.invariant-loop-text
invariant-loop-text l = behind_spaces l.text ≡ behind_spaces l.fn.text

abbrev pub decreases-loop-text : goal.decreases-loop-text
decreases-loop-text l = length l.text
