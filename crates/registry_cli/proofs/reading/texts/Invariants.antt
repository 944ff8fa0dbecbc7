use Rattle.std.proofs.Common.{◌≡◌, map, take}
use Rattle.registry_cli.proofs.reading.texts.Given as goal

abbrev pub invariant-loop-argument : goal.invariant-loop-argument
invariant-loop-argument l = map (λ s. s.now) l.texts.items ≡ take l.argument-index l.arguments
