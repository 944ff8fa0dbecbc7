use Rattle.std.proofs.Common.{◌≡◌, ◌++◌, length, map}
use Rattle.registry_log.specs.Lines.{seen_byte}
use Rattle.registry_log.specs.Targets.{letters, masked, masked_in}
use Rattle.registry_log.proofs.target.push_masked.Given as goal

-- the whole is what is put, and then what is shown of what is left of the target
abbrev pub invariant-loop-letter : goal.invariant-loop-letter
invariant-loop-letter l = l.line.items ++ map seen_byte (masked_in l.is_hidden (letters l.rest)) ≡ l.fn.line.items ++ map seen_byte (masked l.target)

abbrev pub decreases-loop-letter : goal.decreases-loop-letter
decreases-loop-letter l = length l.rest
