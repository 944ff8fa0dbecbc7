use Rattle.std.proofs.Common.{◌≡◌, drop}
use Rattle.registry_log.specs.Targets.{begins, letters, meaning}
use Rattle.registry_log.proofs.target.reads_as.Given as goal

-- the text begins with the word where what is left of it begins with what is left of the word
abbrev pub invariant-loop-byte : goal.invariant-loop-byte
invariant-loop-byte l = begins (meaning (letters l.rest)) (drop l.byte-index l.word) ≡ begins (meaning (letters l.text)) l.word
