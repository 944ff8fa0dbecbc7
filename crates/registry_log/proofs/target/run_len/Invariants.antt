use Rattle.std.proofs.Common.{◌≡◌, ◌+◌, ◌≤◌, length}
use Rattle.registry_log.specs.Targets.{letters, meaning, run}
use Rattle.registry_log.proofs.target.run_len.Given as goal

-- those that were counted, and those that come first in what is left
abbrev pub invariant-loop-letter : goal.invariant-loop-letter
invariant-loop-letter l = (l.count + run (meaning (letters l.rest)) ≡ run (meaning (letters l.text))) × (l.count + length l.rest ≤ length l.text)

abbrev pub decreases-loop-letter : goal.decreases-loop-letter
decreases-loop-letter l = length l.rest
