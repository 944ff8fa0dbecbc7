use Rattle.std.proofs.Common.{◌≡◌, ◌++◌, drop}
use Rattle.registry_log.specs.Lines.{joined}
use Rattle.registry_log.proofs.log.joined.Given as goal

-- the whole is what is put, and then the words that are left
abbrev pub invariant-loop-word : goal.invariant-loop-word
invariant-loop-word l = l.text.items ++ joined (drop l.word-index l.words) ≡ joined l.words
